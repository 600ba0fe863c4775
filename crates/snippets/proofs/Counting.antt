-- The number of snippets of a comparison is one number, the settling rule may be read on any list of them, and there are at most 128 for each node and binary digit of the number of nodes.
use Prim.Native.Nat.{ℕ, suc, ◌+◌, ◌-◌, ◌*◌, ◌^◌, ◌≤◌, ◌<◌}
use mathlib.Core.Path.{◌≡◌, refl, sym, ap, ◌∙◌, subst}
use mathlib.Core.Logic.{◌⊎◌, inl, inr}
use mathlib.Core.List.{List, [], ◌∷◌, ◌++◌}
use lib.ListN.{length, length-append}
use lib.Pow.{pow_pos, pow_mono}
use native.Mathlib.Omega.{arith}
use native.Mathlib.Nat.{mul-le-mul, mul-le-mul_left}
use native.Mathlib.Decide.{dec_le}
use Rattle.lists.specs.Lists.{Occurs, Number}
use Rattle.lists.specs.Text.{binary_digits}
use Rattle.lists.proofs.Lists.{pigeon, number_one, occurs_left, occurs_right, range, length_range, occurs_range, prod, length_prod, occurs_prod}
use Rattle.lists.proofs.Numerals.{binary_above}
use Rattle.xpath.specs.Syntax.{XPath, Test, size}
use Rattle.xpath.specs.Tree.{Tree, WellFormed, Down}
use Rattle.positions.specs.Positions.{second, Follows, IsLast, Comes}
use Rattle.positions.proofs.Glushkov.{next_in, stops_in}
use Rattle.positions.proofs.Chains.{RightAfter, AtEnd, follows_iff, last_iff}
use Rattle.snippets.specs.Snippets.{Different, Yielded, SettledBy}
use Rattle.snippets.specs.Count.{Snippet, Pair, IsSnippet, Sized, Counted, SnippetCount, comparisons}
use Rattle.xpath.proofs.Trees.{down_le, down_zero, ancestors}
use Rattle.snippets.proofs.Settles.{sound, yielded_down, settles}

-- ── One number ──
pub counted_one : (t : Tree) (cs : List Pair) (n m : ℕ) → Counted t cs n → Counted t cs m → n ≡ m
counted_one t [] n m h g = h ∙ sym g
counted_one t (c ∷ cs) n m (a, b, e, h, k) (a', b', e', h', k') =
    let i = number_one h.counted h'.counted in let j = counted_one t cs b b' k k' in omega arith

-- ── The settling rule, read on the snippets counted ──
-- it depends on the set alone
pub settled_on : (t : Tree) (P R : XPath) (S S' : ℕ → ℕ → ℕ → ℕ → Type 0) → ((x y p q : ℕ) → S x y p q → S' x y p q) → (v : ℕ) → SettledBy t P R S v → SettledBy t P R S' v
settled_on t P R S S' f v (inl h) = inl h
settled_on t P R S S' f v (inr (x, y, p, q, a, b, z, h, g, c, e)) = inr (x, y, p, q, a, b, f x y p q z, h, g, c, e)

abbrev zeroth : ℕ → ℕ → ℕ → ℕ → Snippet
zeroth x y p q = record { power = 0; x = x; y = y; p = p; q = q }

-- who has counted the snippets of c has all that demand 3 says of c
pub sized_of : (t : Tree) → WellFormed t → (c : Pair) (n : ℕ) → Number (IsSnippet t c) n → Sized t c n
sized_of t wf c n h = record {
  counted = h;
  settles = λ v r. let i = settles t wf c.first c.second v r in (
    λ s. i.0 (settled_on t c.first c.second (λ x y p q. Occurs (zeroth x y p q) h.list) (Yielded t c.first c.second 0) (λ x y p q. h.only (zeroth x y p q)) v s),
    λ k. settled_on t c.first c.second (Yielded t c.first c.second 0) (λ x y p q. Occurs (zeroth x y p q) h.list) (λ x y p q. h.all (zeroth x y p q)) v (i.1 k),
  );
}

-- ── The bound ──
same_top : (t : Tree) → WellFormed t → (x x' y n : ℕ) → Down t x y n → Down t x' y n → x ≡ x'
same_top t wf x x' y n d e = go (ancestors t wf d e)
  where
    go : ((k : ℕ) × (n + k ≡ n) × Down t x' x k) ⊎ ((k : ℕ) × (n + k ≡ n) × Down t x x' k) → x ≡ x'
    go (inl (k, i, r)) = sym (down_zero t wf (omega arith) r)
    go (inr (k, i, r)) = down_zero t wf (omega arith) r

pub down_inside : (t : Tree) (x y n : ℕ) → 0 < n → Down t x y n → y < t.size
down_inside t x y n r Down.here = absurd (omega arith)
down_inside t x y n r (Down.deeper d c) = c.inside

module _ (P R : XPath) where
  pub follows_small : (i j : ℕ) → Follows P R i j → i ≤ second P R
  follows_small i j f = go ((follows_iff P R i j).0 f)
    where
      go : RightAfter P R i j → i ≤ second P R
      go (inl (inl (e, h))) = omega arith
      go (inl (inr h)) = let k = next_in P 1 i j h in omega arith
      go (inr (inl (e, h))) = omega arith
      go (inr (inr h)) = let k = next_in R (suc (size P)) i j h in omega arith

  last_small : (i : ℕ) → IsLast P R i → i ≤ second P R
  last_small i f = go ((last_iff P R i).0 f)
    where
      go : AtEnd P R i → i ≤ second P R
      go (inl (inl (e, h))) = omega arith
      go (inl (inr h)) = let k = stops_in P 1 i h in omega arith
      go (inr (inl (e, h))) = omega arith
      go (inr (inr h)) = let k = stops_in R (suc (size P)) i h in omega arith

  pub ends_small : (t : Tree) (i v j w : ℕ) → IsLast P R j → Comes P R t i v j w → i ≤ second P R
  ends_small t i v j w l Comes.here = last_small i l
  ends_small t i v j w l (Comes.on {j = k} s f n m c) = follows_small i k f

half_square : (a d : ℕ) → a + (a + d) ≤ 14 → suc a * suc (a + d) ≤ 64
half_square a d h = let g : suc a + suc a + d ≤ 16 = omega arith in omega (arith, mul-le-mul g g)

product_small : (a b : ℕ) → a + b ≤ 14 → suc a * suc b ≤ 64
product_small a b h = go (dec_le a b)
  where
    go : Dec (a ≤ b) → suc a * suc b ≤ 64
    go (yes r) = let e : a + (b - a) ≡ b = omega arith in subst (λ x. suc a * suc x ≤ 64) e (half_square a (b - a) (omega arith))
    go (no f) =
        let e : b + (a - b) ≡ a = omega arith in
        let g = subst (λ x. suc b * suc x ≤ 64) e (half_square b (a - b) (omega arith)) in
        omega arith

abbrev Code : Type 0
Code = ℕ × (ℕ × (ℕ × ℕ))

module _ (t : Tree) (wf : WellFormed t) (c : Pair) (B : ℕ) (few : size c.first + size c.second ≤ 14) (fits : t.size < 2 ^ B) where
  code : Snippet → Code
  code s = (s.power, (s.y, (s.p, s.q)))

  firsts : List ℕ
  firsts = range 0 (suc (size c.first))

  seconds : List ℕ
  seconds = range (suc (size c.first)) (suc (size c.second))

  candidates : List Code
  candidates = prod (range 0 B) (prod (range 0 t.size) (prod firsts seconds ++ prod seconds firsts))

  candidates_length : length candidates ≤ B * (t.size * 128)
  unfolding candidates firsts seconds
  candidates_length =
      let h = product_small (size c.first) (size c.second) few in
      let g : suc (size c.first) * suc (size c.second) + suc (size c.second) * suc (size c.first) ≤ 128 = omega arith in
      simp (length_prod, length_range, length-append) (mul-le-mul_left B (mul-le-mul_left t.size g))

  candidate : (s : Snippet) → IsSnippet t c s → Occurs (code s) candidates
  unfolding candidates firsts seconds code
  candidate s h =
      let d = yielded_down t c.first c.second wf h in
      let l = down_le t wf d in
      let r = down_inside t s.x s.y (2 ^ s.power) (pow_pos s.power) d in
      let (e, (w, u, v, a, b)) = sound t c.first c.second h in
      let i = ends_small c.first c.second t s.p s.x a.0 w a.1 a.2 in
      let j = ends_small c.first c.second t s.q s.y b.0 u b.1 b.2 in
      occurs_prod s.power (s.y, (s.p, s.q)) (range 0 B) (prod (range 0 t.size) (prod firsts seconds ++ prod seconds firsts))
      (occurs_range s.power 0 B (omega arith) (low (dec_le B s.power) (omega arith)))
      (occurs_prod s.y (s.p, s.q) (range 0 t.size) (prod firsts seconds ++ prod seconds firsts)
      (occurs_range s.y 0 t.size (omega arith) (omega arith)) (pair i j e))
    where
      low : Dec (B ≤ s.power) → 2 ^ s.power < 2 ^ B → s.power < 0 + B
      low (yes r) g = let k : 2 ^ B ≤ 2 ^ s.power = pow_mono r in absurd (omega arith)
      low (no f) g = omega arith

      pair : s.p ≤ second c.first c.second → s.q ≤ second c.first c.second → Different c.first c.second s.p s.q
          → Occurs {A = ℕ × ℕ} (s.p, s.q) (prod firsts seconds ++ prod seconds firsts)
      pair i j (inl e) =
          occurs_left {A = ℕ × ℕ} (s.p, s.q) (prod firsts seconds) (prod seconds firsts)
          (occurs_prod s.p s.q firsts seconds (occurs_range s.p 0 (suc (size c.first)) (omega arith) (omega arith))
          (occurs_range s.q (suc (size c.first)) (suc (size c.second)) (omega arith) (omega arith)))
      pair i j (inr e) =
          occurs_right {A = ℕ × ℕ} (s.p, s.q) (prod firsts seconds) (prod seconds firsts)
          (occurs_prod s.p s.q seconds firsts (occurs_range s.p (suc (size c.first)) (suc (size c.second)) (omega arith) (omega arith))
          (occurs_range s.q 0 (suc (size c.first)) (omega arith) (omega arith)))

  code_one : (s s' : Snippet) → IsSnippet t c s → IsSnippet t c s' → code s ≡ code s' → s ≡ s'
  unfolding code
  code_one s s' h h' e =
      let k : s.power ≡ s'.power = ap (λ (z : Code). z.0) e in
      let y : s.y ≡ s'.y = ap (λ (z : Code). z.1.0) e in
      let p : s.p ≡ s'.p = ap (λ (z : Code). z.1.1.0) e in
      let q : s.q ≡ s'.q = ap (λ (z : Code). z.1.1.1) e in
      let d = yielded_down t c.first c.second wf h in
      let d' = yielded_down t c.first c.second wf h' in
      let d'' : Down t s'.x s.y (2 ^ s.power) = rw (k, y) d' in
      let x : s.x ≡ s'.x = same_top t wf s.x s'.x s.y (2 ^ s.power) d d'' in
      λ i. record { power = k i; x = x i; y = y i; p = p i; q = q i }

  -- of any set of them
  pub some_bound : (S : Snippet → Type 0) → ((s : Snippet) → S s → IsSnippet t c s) → (n : ℕ) → Number S n → n ≤ 128 * (t.size * B)
  some_bound S is n h =
      let r = pigeon code h.list candidates h.distinct (λ a o. candidate a (is a (h.only a o))) (λ a b o p e. code_one a b (is a (h.only a o)) (is b (h.only b p)) e) in
      let l = candidates_length in let i = h.long in
      omega arith

  -- and of all
  pub count_bound : (n : ℕ) → Number (IsSnippet t c) n → n ≤ 128 * (t.size * B)
  count_bound n h = some_bound (IsSnippet t c) (λ s z. z) n h

-- 01: the count is at most 128 × N × B × E
pub counted_bound : (t : Tree) → WellFormed t → (cs : List Pair)
    → ((c : Pair) → Occurs c cs → size c.first + size c.second ≤ 14) → (n : ℕ) → Counted t cs n → n ≤ 128 * t.size * binary_digits t.size * length cs
counted_bound t wf [] few n e = omega arith
counted_bound t wf (c ∷ cs) few n (a, b, e, h, g) =
    let i = count_bound t wf c (binary_digits t.size) (few c (inl refl)) (binary_above t.size) a h.counted in
    let j = counted_bound t wf cs (λ x o. few x (inr o)) b g in
    omega arith

pub snippet_count : (t : Tree) → WellFormed t → (T : Test)
    → ((c : Pair) → Occurs c (comparisons T) → size c.first + size c.second ≤ 14) → (n : ℕ) → Counted t (comparisons T) n → SnippetCount t T n
snippet_count t wf T few n h = record { counted = h; bounded = counted_bound t wf (comparisons T) few n h }
