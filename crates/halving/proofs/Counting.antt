-- The snippets are as many as the ones in their words: position by position, row by row, block by block.
use Prim.Native.Nat.{ℕ, zero, suc, ◌+◌, ◌*◌, ◌/◌, ◌%◌, ◌^◌, ◌≤◌, ◌<◌, zero-le}
use mathlib.Core.Path.{◌≡◌, refl, sym, ap, ◌∙◌, subst}
use mathlib.Core.Bool.{Bool, true, false, false≢true}
use mathlib.Core.List.{List}
use native.Mathlib.Omega.{arith}
use native.Mathlib.Nat.{mul-le-mul_right, div-add-mod', div-lt_iff_lt-mul, mod-lt}
use native.Mathlib.Numerals.{add-one}
use native.Mathlib.Decide.{dec_lt}
use lib.ListN.{get_or}
use Rattle.lists.specs.Lists.{Number}
use Rattle.lists.proofs.Lists.{number_none, number_single, number_iff, number_sum}
use Rattle.bits.specs.Sets.{bit, one, size}
use Rattle.xpath.specs.Tree.{Tree, WellFormed, Down}
use Rattle.snippets.specs.Count.{Snippet}
use Rattle.snippets.specs.Halves.{Family}
use Rattle.matrices.specs.Matrices.{Related, pairs}
use Rattle.matrices.proofs.Pairs.{pairs_le}
use Rattle.layout.specs.Blocks.{BLOCKS, snippet_at}
use Rattle.powers.proofs.Ancestors.{one_above}
use Rattle.halving.specs.Halving.{Within, Sets, Marked, Topped, Belongs, Counts}
use Rattle.halving.proofs.Families.{dec_above, sets_topped, sets_marked}

-- the ones in the snippets of the first m blocks
unfoldable pub total : List ℕ → ℕ → ℕ → ℕ
total p n zero = 0
total p n (suc m) = total p n m + pairs p (BLOCKS * n + 64 * m + 32) 16

pub total_more : (p : List ℕ) (n m : ℕ) → total p n (m + 1) ≡ total p n m + pairs p (BLOCKS * n + 64 * m + 32) 16
unfolding total
total_more p n m = ap (total p n) (add-one m)

pub total_le : (p : List ℕ) (n m : ℕ) → total p n m ≤ 256 * m
unfolding total
total_le p n zero = zero-le
total_le p n (suc m) = let h = total_le p n m in let r = pairs_le p (BLOCKS * n + 64 * m + 32) 16 in omega arith

-- ── One matrix, whose snippets have the nodes x and y ──
number_bit : {A : Type 0} (b : Bool) (a : A) → Number (λ (s : A). (b ≡ true) × (s ≡ a)) (one b)
number_bit true a = number_iff (λ s. (λ e. (refl, e), λ h. h.1)) (number_single a)
number_bit false a = number_none _ (λ s (e, f). false≢true e)

module _ (k x y : ℕ) where
  abbrev snippet : ℕ → ℕ → Snippet
  snippet i j = record { power = k; x = x; y = y; p = i; q = j }

  abbrev InRow : ℕ → ℕ → ℕ → Snippet → Type 0
  InRow w m i s = (j : ℕ) × (j < m) × ((bit w j ≡ true) × (s ≡ snippet i j))

  number_row : (w i m : ℕ) → Number (InRow w m i) (size m w)
  unfolding size
  number_row w i m =
      number_sum (λ j s. (bit w j ≡ true) × (s ≡ snippet i j)) (λ j. one (bit w j)) (λ m. size m w) refl (λ j. refl)
      (λ j j' s h g. ap (λ (a : Snippet). a.q) (sym h.1 ∙ g.1)) m (λ j r. number_bit (bit w j) (snippet i j))

  abbrev InMatrix : List ℕ → ℕ → ℕ → Snippet → Type 0
  InMatrix p at m s = (i : ℕ) × (i < m) × InRow (get_or p (at + i) 0) 16 i s

  number_matrix : (p : List ℕ) (at m : ℕ) → Number (InMatrix p at m) (pairs p at m)
  unfolding pairs
  number_matrix p at m =
      number_sum (λ i. InRow (get_or p (at + i) 0) 16 i) (λ i. size 16 (get_or p (at + i) 0)) (pairs p at) refl (λ i. refl)
      (λ i i' s (j, l, (b, e)) (j', l', (b', e')). ap (λ (a : Snippet). a.p) (sym e ∙ e')) m (λ i r. number_row (get_or p (at + i) 0) i 16)

-- the place of a block says its exponent and its node
one_place : (n k y k' y' : ℕ) → y < n → y' < n → k * n + y ≡ k' * n + y' → (k ≡ k') × (y ≡ y')
one_place n k y k' y' l l' e = let o = same (dec_lt k k') (dec_lt k' k) in (o, rest o)
  where
    same : Dec (k < k') → Dec (k' < k) → k ≡ k'
    same (yes r) g = let m : suc k * n ≤ k' * n = mul-le-mul_right n r in absurd (omega arith)
    same (no f) (yes r) = let m : suc k' * n ≤ k * n = mul-le-mul_right n r in absurd (omega arith)
    same (no f) (no g) = omega arith

    rest : k ≡ k' → y ≡ y'
    rest o = let m : k * n ≡ k' * n = ap (λ (z : ℕ). z * n) o in omega arith

-- ── All blocks ──
module _ {t : Tree} {n b : ℕ} {p : List ℕ} (wf : WellFormed t) (topped : Topped t n b p) where
  abbrev AtBlock : ℕ → ℕ → Snippet → Type 0
  AtBlock k y s = Belongs (Marked t n b p) s × (s.power ≡ k) × (s.y ≡ y)

  number_block : (k y : ℕ) → k < b → y < n → Number (AtBlock k y) (pairs p (snippet_at n k y) 16)
  number_block k y a c = go (dec_above t (2 ^ k) y)
    where
      go : Dec ((x : ℕ) × Down t x y (2 ^ k)) → Number (AtBlock k y) (pairs p (snippet_at n k y) 16)
      go (yes (x, d)) = number_iff (λ s. (to s, from s)) (number_matrix k x y p (snippet_at n k y) 16)
        where
          to : (s : Snippet) → InMatrix k x y p (snippet_at n k y) 16 s → AtBlock k y s
          to s (i, l, (j, m, (r, e))) =
              subst (AtBlock k y) (sym e) (record { inside = record { power = a; lower = c; apart = d; first = l; second = m }; marked = r }, refl, refl)

          from : (s : Snippet) → AtBlock k y s → InMatrix k x y p (snippet_at n k y) 16 s
          from s (m, ek, ey) =
              let r : Related p (snippet_at n k y) s.p s.q = rw (ek, ey) at m.marked in
              let u : Down t s.x y (2 ^ k) = rw (ek, ey) at m.inside.apart in
              let ex : s.x ≡ x = one_above wf u d in
              (s.p, m.inside.first, (s.q, m.inside.second, (r, λ i. record { power = ek i; x = ex i; y = ey i; p = s.p; q = s.q })))
      go (no f) = number_iff (λ s. (to s, from s)) (number_matrix k 0 y p (snippet_at n k y) 16)
        where
          to : (s : Snippet) → InMatrix k 0 y p (snippet_at n k y) 16 s → AtBlock k y s
          to s (i, l, (j, m, (r, e))) = absurd (f (topped.top k y i j a c l m r))

          from : (s : Snippet) → AtBlock k y s → InMatrix k 0 y p (snippet_at n k y) 16 s
          from s (m, ek, ey) = let u : Down t s.x y (2 ^ k) = rw (ek, ey) at m.inside.apart in absurd (f (s.x, u))

  abbrev AtPlace : ℕ → Snippet → Type 0
  AtPlace l s = Belongs (Marked t n b p) s × (s.power * n + s.y ≡ l)

  number_place : (l : ℕ) → l < b * n → Number (AtPlace l) (pairs p (BLOCKS * n + 64 * l + 32) 16)
  number_place l h = go (dec_lt 0 n)
    where
      go : Dec (0 < n) → Number (AtPlace l) (pairs p (BLOCKS * n + 64 * l + 32) 16)
      go (no f) = let e : b * n ≡ b * 0 = ap (λ (z : ℕ). b * z) (omega arith) in absurd (omega arith)
      go (yes r) =
          let e : l / n * n + l % n ≡ l = div-add-mod' l n in
          let m : l % n < n = mod-lt l r in
          let o : snippet_at n (l / n) (l % n) ≡ BLOCKS * n + 64 * l + 32 = ap (λ (z : ℕ). BLOCKS * n + 64 * z + 32) e in
          subst (λ a. Number (AtPlace l) (pairs p a 16)) o
          (number_iff (λ s. (to s e, from s m e)) (number_block (l / n) (l % n) ((div-lt_iff_lt-mul r).1 h) m))
        where
          to : (s : Snippet) → l / n * n + l % n ≡ l → AtBlock (l / n) (l % n) s → AtPlace l s
          to s e (m, ek, ey) = (m, rw (ek, ey) e)

          from : (s : Snippet) → l % n < n → l / n * n + l % n ≡ l → AtPlace l s → AtBlock (l / n) (l % n) s
          from s r e (m, o) = let (ek, ey) = one_place n s.power s.y (l / n) (l % n) m.inside.lower r (o ∙ sym e) in (m, ek, ey)

  number_all : Number (Belongs (Marked t n b p)) (total p n (b * n))
  unfolding total
  number_all =
      number_iff (λ s. (λ (l, h, (m, e)). m, λ m. (s.power * n + s.y, place s m, (m, refl))))
      (number_sum AtPlace (λ l. pairs p (BLOCKS * n + 64 * l + 32) 16) (total p n) refl (λ l. refl) (λ l l' s h g. sym h.1 ∙ g.1) (b * n) number_place)
    where
      place : (s : Snippet) → Belongs (Marked t n b p) s → s.power * n + s.y < b * n
      place s m = let l = m.inside.lower in let r : suc s.power * n ≤ b * n = mul-le-mul_right n m.inside.power in omega arith

pub total_counts : (p : List ℕ) (n b : ℕ) → Counts n b p (total p n (b * n))
total_counts p n b = record { number = λ t wf h. number_all wf h }

-- ── What callers want of the count ──
-- if the words are those of S, there are r snippets in S
pub counts_sets : {n b r : ℕ} {p : List ℕ} {t : Tree} {S : Family} → Counts n b p r → WellFormed t → Within t n b S → Sets t n b p S → Number (Belongs S) r
counts_sets {t = t} c wf w s = number_iff (λ a. sets_marked s wf w a.power a.x a.y a.p a.q) (c.number t wf (sets_topped s))
