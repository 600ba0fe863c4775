-- The meaning of a rule as a test that computes.
use Prim.Native.Nat.{ℕ, zero, suc, ◌+◌, ◌≤◌, ◌<◌}
use mathlib.Core.Path.{◌≡◌, refl, subst, subst₂, sym}
use mathlib.Core.Logic.{◌⊎◌, inl, inr, ◌↔◌}
use mathlib.Core.Bool.{Bool, true, false}
use mathlib.Core.Option.{Option, none, some}
use mathlib.Core.List.{List, [], ◌∷◌}
use native.Mathlib.Omega.{arith}
use native.Mathlib.Decide.{ℕ_discrete}
use lib.Dec.{T, leb, ltb, eqb, ltb→lt, lt→ltb, eqb→eq, eqb_refl}
use Rattle.lists.specs.Lists.{Occurs, Number}
use Rattle.lists.specs.Blanks.{trim}
use Rattle.lists.proofs.Lists.{number_none, number_single, number_add, number_iff, at_least_number, at_least_iff}
use Rattle.xpath.specs.Syntax.{Op, eq, ne, lt, le, gt, ge, Test, named, not, and, or, compare, compare_to, at_least, XPath, empty, one, seq, union, star, Step, to_left, to_right, from_left, from_right, stay}
use Rattle.xpath.specs.Tree.{Tree, Child, WellFormed}
use Rattle.xpath.specs.Meaning.{ByAmount, Rel, Many, none, more, Holds, Reaches, Moves}
use Rattle.xpath.specs.Booleans.{both, either}
use Rattle.xpath.specs.Amounts.{Amount, Below, AtMost}
use Rattle.xpath.specs.Reading.{amount_of}
use Rattle.xpath.proofs.Amounts.{amount_iff}
use Rattle.xpath.proofs.Booleans.{neg, T-both, T-either, T-neg, eqb_iff, leb_iff, ltb_iff, ⊎-iff, ×-iff, ¬-iff, trans, swap, same}

-- ── Tests ──
abbrev pub some_below : ℕ → (ℕ → Bool) → Bool
some_below zero f = false
some_below (suc n) f = either (f n) (some_below n f)

some_step : (n : ℕ) (f : ℕ → Bool) → T (some_below n f) ↔ ((i : ℕ) × (i < n) × T (f i)) → T (some_below (suc n) f) ↔ ((i : ℕ) × (i < suc n) × T (f i))
some_step n f ih = (λ h. to ((T-either (f n) (some_below n f)).0 h), λ h. from h.0 h.1 h.2 (ℕ_discrete h.0 n))
  where
    to : T (f n) ⊎ T (some_below n f) → (i : ℕ) × (i < suc n) × T (f i)
    to (inl h) = (n, (omega arith), h)
    to (inr h) = let (i, r, g) = ih.0 h in (i, (omega arith), g)

    from : (i : ℕ) → i < suc n → T (f i) → Dec (i ≡ n) → T (some_below (suc n) f)
    from i r h (yes e) = (T-either (f n) (some_below n f)).1 (inl (subst (λ x. T (f x)) e h))
    from i r h (no g) = (T-either (f n) (some_below n f)).1 (inr (ih.1 (i, (omega arith), h)))

pub some_iff : (n : ℕ) (f : ℕ → Bool) → T (some_below n f) ↔ ((i : ℕ) × (i < n) × T (f i))
some_iff zero f = (λ h. absurd h, λ h. let r = h.1 in absurd (omega arith))
some_iff (suc n) f = some_step n f (some_iff n f)

abbrev pub every_below : ℕ → (ℕ → Bool) → Bool
every_below zero f = true
every_below (suc n) f = both (f n) (every_below n f)

pub every_iff : (n : ℕ) (f : ℕ → Bool) (B : ℕ → Type 0) → ((i : ℕ) → i < n → T (f i) ↔ B i) → T (every_below n f) ↔ ((i : ℕ) → i < n → B i)
every_iff zero f B e = (λ h i r. absurd (omega arith), λ h. tt)
every_iff (suc n) f B e =
    trans (T-both (f n) (every_below n f)) (trans (×-iff (e n (omega arith)) (every_iff n f B (λ i r. e i (omega arith)))) (λ h i r. up h.0 h.1 i r (ℕ_discrete i n), λ h. (h n (omega arith), λ i r. h i (omega arith))))
  where
    up : B n → ((i : ℕ) → i < n → B i) → (i : ℕ) → i < suc n → Dec (i ≡ n) → B i
    up h g i r (yes p) = subst B (sym p) h
    up h g i r (no p) = g i (omega arith)

pub every_by : (n : ℕ) (f : ℕ → Bool) → T (every_below n f) → (i : ℕ) → i < n → T (f i)
every_by n f = (every_iff n f (λ i. T (f i)) (λ i r. same)).0

-- ── How many ──
abbrev count_below : ℕ → (ℕ → Bool) → ℕ
count_below zero f = 0
count_below (suc n) f = elim (f n) [ true ↦ suc (count_below n f) | false ↦ count_below n f ]

count_number : (n : ℕ) (f : ℕ → Bool) → Number (λ i. (i < n) × T (f i)) (count_below n f)
count_number zero f = number_none _ (λ i (r, h). omega arith)
count_number (suc n) f = go (f n) refl (count_number n f)
  where
    go : (b : Bool) → f n ≡ b → Number (λ i. (i < n) × T (f i)) (count_below n f) → Number (λ i. (i < suc n) × T (f i)) (elim b [ true ↦ suc (count_below n f) | false ↦ count_below n f ])
    go true e ih = subst (λ m. Number (λ i. (i < suc n) × T (f i)) m) (omega arith) (number_iff (λ i. (with_last i, split i (ℕ_discrete i n))) (number_add (number_single n) ih (λ i p (r, h). omega arith)))
      where
        with_last : (i : ℕ) → (i ≡ n) ⊎ ((i < n) × T (f i)) → (i < suc n) × T (f i)
        with_last i (inl p) = (omega arith, subst (λ j. T (f j)) (sym p) (subst T (sym e) tt))
        with_last i (inr (r, h)) = (omega arith, h)

        split : (i : ℕ) → Dec (i ≡ n) → (i < suc n) × T (f i) → (i ≡ n) ⊎ ((i < n) × T (f i))
        split i (yes p) h = inl p
        split i (no p) (r, h) = inr (omega arith, h)
    go false e ih = number_iff (λ i. (λ (r, h). (omega arith, h), λ (r, h). (inner i r h (ℕ_discrete i n), h))) ih
      where
        inner : (i : ℕ) → i < suc n → T (f i) → Dec (i ≡ n) → i < n
        inner i r h (yes p) = absurd (subst T e (subst (λ j. T (f j)) p h))
        inner i r h (no p) = omega arith

-- ── All of a list ──
module _ {A : Type 0} (f : A → Bool) where
  abbrev pub allb : List A → Bool
  allb [] = true
  allb (x ∷ xs) = both (f x) (allb xs)

  pub each_by : (B : A → Type 0) → ((a : A) → T (f a) → B a) → (xs : List A) → T (allb xs) → (a : A) → Occurs a xs → B a
  each_by B g [] h a o = absurd o
  each_by B g (x ∷ xs) h a (inl e) = subst B (sym e) (g x ((T-both (f x) (allb xs)).0 h).0)
  each_by B g (x ∷ xs) h a (inr o) = each_by B g xs ((T-both (f x) (allb xs)).0 h).1 a o

  pub by_each : (B : A → Type 0) → ((a : A) → B a → T (f a)) → (xs : List A) → ((a : A) → Occurs a xs → B a) → T (allb xs)
  by_each B g [] h = tt
  by_each B g (x ∷ xs) h = (T-both (f x) (allb xs)).1 (g x (h x (inl refl)), by_each B g xs (λ a o. h a (inr o)))

-- ── Strings ──
abbrev pub sameb : List ℕ → List ℕ → Bool
sameb [] [] = true
sameb [] (y ∷ ys) = false
sameb (x ∷ xs) [] = false
sameb (x ∷ xs) (y ∷ ys) = both (eqb x y) (sameb xs ys)

pub same_iff : (xs ys : List ℕ) → T (sameb xs ys) ↔ (xs ≡ ys)
same_iff [] [] = (λ h. refl, λ e. tt)
same_iff [] (y ∷ ys) = (λ h. absurd h, λ e. let z : ◌≡◌ {A = ℕ} 0 1 = cc in absurd (omega arith))
same_iff (x ∷ xs) [] = (λ h. absurd h, λ e. let z : ◌≡◌ {A = ℕ} 0 1 = cc in absurd (omega arith))
same_iff (x ∷ xs) (y ∷ ys) =
    let ih = same_iff xs ys in (
      λ h. let a = eqb→eq x y ((T-both (eqb x y) (sameb xs ys)).0 h).0 in let b = ih.0 ((T-both (eqb x y) (sameb xs ys)).0 h).1 in (cc),
      λ e. (T-both (eqb x y) (sameb xs ys)).1 ((eqb_iff x y).1 (cc), ih.1 (cc)),
    )

-- ── Relations of values ──
abbrev pub belowb : Amount → Amount → Bool
belowb a b = ltb (a.above + b.below) (b.above + a.below)

abbrev pub at_mostb : Amount → Amount → Bool
at_mostb a b = neg (belowb b a)

abbrev pub by_amountb : (Amount → Amount → Bool) → Option Amount → Option Amount → Bool
by_amountb r (some a) (some b) = r a b
by_amountb r (some a) none = false
by_amountb r none b = false

below_iff : (a b : Amount) → T (belowb a b) ↔ Below a b
below_iff a b = ltb_iff (a.above + b.below) (b.above + a.below)

at_most_iff : (a b : Amount) → T (at_mostb a b) ↔ AtMost a b
at_most_iff a b = trans (T-neg (belowb b a)) (trans (¬-iff (below_iff b a)) (λ h. omega arith, λ h k. omega arith))

module _ (r : Amount → Amount → Bool) (R : Amount → Amount → Type 0) (iff : (a b : Amount) → T (r a b) ↔ R a b) where
  by_amount_iff : (bs cs : List ℕ) → T (by_amountb r (amount_of bs) (amount_of cs)) ↔ ByAmount R bs cs
  by_amount_iff bs cs = (to (amount_of bs) (amount_of cs) refl refl, λ (a, b, h, k, o). from a b ((amount_iff bs a).0 h) ((amount_iff cs b).0 k) ((iff a b).1 o))
    where
      to : (x y : Option Amount) → amount_of bs ≡ x → amount_of cs ≡ y → T (by_amountb r x y) → ByAmount R bs cs
      to (some a) (some b) e f h = (a, b, (amount_iff bs a).1 e, (amount_iff cs b).1 f, (iff a b).0 h)
      to (some a) none e f h = absurd h
      to none y e f h = absurd h

      from : (a b : Amount) → amount_of bs ≡ some a → amount_of cs ≡ some b → T (r a b) → T (by_amountb r (amount_of bs) (amount_of cs))
      from a b e f h = subst₂ (λ x y. T (by_amountb r x y)) (sym e) (sym f) h

abbrev pub relb : Op → List ℕ → List ℕ → Bool
relb eq bs cs = sameb bs cs
relb ne bs cs = neg (sameb bs cs)
relb lt bs cs = by_amountb belowb (amount_of bs) (amount_of cs)
relb le bs cs = by_amountb at_mostb (amount_of bs) (amount_of cs)
relb gt bs cs = by_amountb belowb (amount_of cs) (amount_of bs)
relb ge bs cs = by_amountb at_mostb (amount_of cs) (amount_of bs)

pub rel_iff : (o : Op) (bs cs : List ℕ) → T (relb o bs cs) ↔ Rel o bs cs
rel_iff eq bs cs = same_iff bs cs
rel_iff ne bs cs = trans (T-neg (sameb bs cs)) (¬-iff (same_iff bs cs))
rel_iff lt bs cs = by_amount_iff belowb Below below_iff bs cs
rel_iff le bs cs = by_amount_iff at_mostb AtMost at_most_iff bs cs
rel_iff gt bs cs = by_amount_iff belowb Below below_iff cs bs
rel_iff ge bs cs = by_amount_iff at_mostb AtMost at_most_iff cs bs

-- ── Zero or more times, over nodes below n (Warshall) ──
abbrev pub close : ℕ → (ℕ → ℕ → Bool) → ℕ → ℕ → Bool
close zero f a b = either (eqb a b) (f a b)
close (suc k) f a b = either (close k f a b) (both (close k f a k) (close k f k b))

module _ (f : ℕ → ℕ → Bool) where
  abbrev Reach : ℕ → ℕ → ℕ → Type 0
  Reach k a b = T (close k f a b)

  abbrev Two : ℕ → ℕ → ℕ → Type 0
  Two k a b = Reach k a b ⊎ (Reach k a k × Reach k k b)

  two : (k a b : ℕ) → Reach (suc k) a b ↔ Two k a b
  two k a b = trans (T-either (close k f a b) (both (close k f a k) (close k f k b))) (⊎-iff same (T-both (close k f a k) (close k f k b)))

  fst_at : (k a : ℕ) → Two k a k → Reach k a k
  fst_at k a (inl h) = h
  fst_at k a (inr h) = h.0

  snd_at : (k b : ℕ) → Two k k b → Reach k k b
  snd_at k b (inl h) = h
  snd_at k b (inr h) = h.1

  join_step : (k : ℕ) → ((m a b : ℕ) → m < k → Reach k a m → Reach k m b → Reach k a b) → (m a b : ℕ) → m < suc k → Dec (m ≡ k) → Two k a m → Two k m b → Two k a b
  join_step k ih m a b r (yes e) h g = inr (fst_at k a (subst (λ x. Two k a x) e h), snd_at k b (subst (λ x. Two k x b) e g))
  join_step k ih m a b r (no n) (inl h) (inl g) = inl (ih m a b (omega arith) h g)
  join_step k ih m a b r (no n) (inl h) (inr g) = inr (ih m a k (omega arith) h g.0, g.1)
  join_step k ih m a b r (no n) (inr h) (inl g) = inr (h.0, ih m k b (omega arith) h.1 g)
  join_step k ih m a b r (no n) (inr h) (inr g) = inr (h.0, g.1)

  close_join : (k m a b : ℕ) → m < k → Reach k a m → Reach k m b → Reach k a b
  close_join zero m a b r h g = absurd (omega arith)
  close_join (suc k) m a b r h g = (two k a b).1 (join_step k (close_join k) m a b r (ℕ_discrete m k) ((two k a m).0 h) ((two k m b).0 g))

  close_up : (k a b : ℕ) → T (either (eqb a b) (f a b)) → Reach k a b
  close_up zero a b h = h
  close_up (suc k) a b h = (two k a b).1 (inl (close_up k a b h))

  module _ (n : ℕ) (R : ℕ → ℕ → Type 0) (iff : (a b : ℕ) → a < n → b < n → T (f a b) ↔ R a b) (stays : (a b : ℕ) → a < n → R a b → b < n) where
    many_join : {a b c : ℕ} → Many R a b → Many R b c → Many R a c
    many_join none h = h
    many_join (more r g) h = more r (many_join g h)

    close_many : (k : ℕ) → k ≤ n → (a b : ℕ) → a < n → b < n → Reach k a b → Many R a b
    close_many zero l a b ra rb h = go ((T-either (eqb a b) (f a b)).0 h)
      where
        go : T (eqb a b) ⊎ T (f a b) → Many R a b
        go (inl e) = subst (λ x. Many R a x) (eqb→eq a b e) none
        go (inr g) = more ((iff a b ra rb).0 g) none
    close_many (suc k) l a b ra rb h = go (λ x y rx ry g. close_many k (omega arith) x y rx ry g) ((two k a b).0 h)
      where
        go : ((x y : ℕ) → x < n → y < n → Reach k x y → Many R x y) → Two k a b → Many R a b
        go ih (inl g) = ih a b ra rb g
        go ih (inr g) = many_join (ih a k ra (omega arith) g.0) (ih k b (omega arith) rb g.1)

    many_close : {a b : ℕ} → a < n → Many R a b → Reach n a b
    many_close {a} ra none = close_up n a a ((T-either (eqb a a) (f a a)).1 (inl (eqb_refl a)))
    many_close {a} {b} ra (more {u = u} r h) =
        let ru = stays a u ra r in
        close_join n u a b ru (close_up n a u ((T-either (eqb a u) (f a u)).1 (inr ((iff a u ra ru).1 r)))) (many_close ru h)

    close_iff : (a b : ℕ) → a < n → b < n → Reach n a b ↔ Many R a b
    close_iff a b ra rb = (close_many n (omega arith) a b ra rb, many_close ra)

-- ── The evaluator ──
abbrev pub sideb : Bool → Bool → Bool
sideb true b = b
sideb false b = neg b

pub side_iff : (a b : Bool) → T (sideb a b) ↔ (a ≡ b)
side_iff true true = (λ h. refl, λ e. tt)
side_iff true false = (λ h. absurd h, λ e. let z : ◌≡◌ {A = ℕ} 0 1 = cc in absurd (omega arith))
side_iff false true = (λ h. absurd h, λ e. let z : ◌≡◌ {A = ℕ} 0 1 = cc in absurd (omega arith))
side_iff false false = (λ h. refl, λ e. tt)

-- two facts that hold or fail together, each told by a test
pub sides_iff : {A B : Type 0} (a b : Bool) → T a ↔ A → T b ↔ B → T (sideb a b) ↔ (A ↔ B)
sides_iff true true i j = (λ h. (λ x. j.0 tt, λ y. i.0 tt), λ h. tt)
sides_iff true false i j = (λ h. absurd h, λ h. j.1 (h.0 (i.0 tt)))
sides_iff false true i j = (λ h. absurd h, λ h. i.1 (h.1 (j.0 tt)))
sides_iff false false i j = (λ h. (λ x. absurd (i.1 x), λ y. absurd (j.1 y)), λ h. tt)

abbrev pub childb : Tree → Bool → ℕ → ℕ → Bool
childb t side v w = both (both (ltb 0 w) (ltb w t.size)) (both (eqb (t.parent w) v) (sideb (t.is_left w) side))

child_iff : (t : Tree) (side : Bool) (v w : ℕ) → T (childb t side v w) ↔ Child t side v w
child_iff t side v w = trans parts (λ h. record { inner = h.0.0; inside = h.0.1; above = h.1.0; which = h.1.1 }, λ c. ((c.inner, c.inside), (c.above, c.which)))
  where
    parts : T (childb t side v w) ↔ (((0 < w) × (w < t.size)) × ((t.parent w ≡ v) × (t.is_left w ≡ side)))
    parts =
        trans (T-both (both (ltb 0 w) (ltb w t.size)) (both (eqb (t.parent w) v) (sideb (t.is_left w) side)))
        (×-iff (trans (T-both (ltb 0 w) (ltb w t.size)) (×-iff (ltb_iff 0 w) (ltb_iff w t.size)))
        (trans (T-both (eqb (t.parent w) v) (sideb (t.is_left w) side)) (×-iff (eqb_iff (t.parent w) v) (side_iff (t.is_left w) side))))

abbrev mutual
  pub holdsb : Tree → Test → ℕ → Bool
  holdsb t (named n) v = sameb (t.label v) n
  holdsb t (not U) v = neg (holdsb t U v)
  holdsb t (and U W) v = both (holdsb t U v) (holdsb t W v)
  holdsb t (or U W) v = either (holdsb t U v) (holdsb t W v)
  holdsb t (compare o P Q) v =
      some_below t.size (λ w. both (reachb t P v w) (some_below t.size (λ u. both (reachb t Q v u) (relb o (t.value w) (t.value u)))))
  holdsb t (compare_to o P c) v = some_below t.size (λ w. both (reachb t P v w) (relb o (t.value w) (trim c)))
  holdsb t (at_least n P) v = leb n (count_below t.size (λ w. reachb t P v w))

  pub reachb : Tree → XPath → ℕ → ℕ → Bool
  reachb t empty v w = eqb v w
  reachb t (one s) v w = moveb t s v w
  reachb t (seq P Q) v w = some_below t.size (λ u. both (reachb t P v u) (reachb t Q u w))
  reachb t (union P Q) v w = either (reachb t P v w) (reachb t Q v w)
  reachb t (star P) v w = close t.size (λ a b. reachb t P a b) v w

  pub moveb : Tree → Step → ℕ → ℕ → Bool
  moveb t to_left v w = childb t true v w
  moveb t to_right v w = childb t false v w
  moveb t from_left v w = childb t true w v
  moveb t from_right v w = childb t false w v
  moveb t (stay U) v w = both (eqb v w) (holdsb t U v)

module _ (t : Tree) (wf : WellFormed t) where
  up_inside : (side : Bool) (v w : ℕ) → Child t side w v → w < t.size
  up_inside side v w c = let h = wf.upwards v c.inner c.inside in let e = c.above in let r = c.inside in omega arith

  moves_inside : (s : Step) (v w : ℕ) → v < t.size → Moves t s v w → w < t.size
  moves_inside to_left v w r m = m.inside
  moves_inside to_right v w r m = m.inside
  moves_inside from_left v w r m = up_inside true v w m
  moves_inside from_right v w r m = up_inside false v w m
  moves_inside (stay U) v w r m = let e = m.0 in omega arith

  many_inside : (R : ℕ → ℕ → Type 0) → ((a b : ℕ) → a < t.size → R a b → b < t.size) → (v w : ℕ) → v < t.size → Many R v w → w < t.size
  many_inside R f v w r none = r
  many_inside R f v w r (more {u = u} h k) = many_inside R f u w (f v u r h) k

  pub reaches_inside : (P : XPath) (v w : ℕ) → v < t.size → Reaches t P v w → w < t.size
  reaches_inside empty v w r e = omega arith
  reaches_inside (one s) v w r m = moves_inside s v w r m
  reaches_inside (seq P Q) v w r (u, h, g) = reaches_inside Q u w (reaches_inside P v u r h) g
  reaches_inside (union P Q) v w r (inl h) = reaches_inside P v w r h
  reaches_inside (union P Q) v w r (inr h) = reaches_inside Q v w r h
  reaches_inside (star P) v w r h = many_inside (λ a b. Reaches t P a b) (λ a b x y. reaches_inside P a b x y) v w r h

  -- some node below the size, told by a test
  some_node : (f : ℕ → Bool) (A : ℕ → Type 0) → ((u : ℕ) → u < t.size → T (f u) ↔ A u) → ((u : ℕ) → A u → u < t.size) → T (some_below t.size f) ↔ ((u : ℕ) × A u)
  some_node f A iff stays =
      trans (some_iff t.size f) (λ h. (h.0, (iff h.0 h.1).0 h.2), λ h. (h.0, stays h.0 h.1, (iff h.0 (stays h.0 h.1)).1 h.1))

  flat : {A B : ℕ → Type 0} → ((u : ℕ) × (A u × B u)) ↔ ((u : ℕ) × A u × B u)
  flat = (λ h. (h.0, h.1.0, h.1.1), λ h. (h.0, (h.1, h.2)))

  two_nodes : (f g : ℕ → Bool) (A B : ℕ → Type 0) (r : ℕ → ℕ → Bool) (S : ℕ → ℕ → Type 0)
      → ((u : ℕ) → u < t.size → T (f u) ↔ A u) → ((u : ℕ) → A u → u < t.size)
      → ((u : ℕ) → u < t.size → T (g u) ↔ B u) → ((u : ℕ) → B u → u < t.size)
      → ((w u : ℕ) → T (r w u) ↔ S w u)
      → T (some_below t.size (λ w. both (f w) (some_below t.size (λ u. both (g u) (r w u))))) ↔ ((w u : ℕ) × A w × B u × S w u)
  two_nodes f g A B r S fi fs gi gs ri =
      trans
      (some_node (λ w. both (f w) (some_below t.size (λ u. both (g u) (r w u)))) (λ w. A w × ((u : ℕ) × (B u × S w u)))
      (λ w x. trans (T-both (f w) (some_below t.size (λ u. both (g u) (r w u))))
      (×-iff (fi w x) (some_node (λ u. both (g u) (r w u)) (λ u. B u × S w u) (λ u y. trans (T-both (g u) (r w u)) (×-iff (gi u y) (ri w u))) (λ u h. gs u h.0))))
      (λ w h. fs w h.0))
      (λ h. (h.0, h.1.1.0, h.1.0, h.1.1.1.0, h.1.1.1.1), λ h. (h.0, (h.2, (h.1, (h.3, h.4)))))

  mutual
    pub holds_iff : (U : Test) (v : ℕ) → v < t.size → T (holdsb t U v) ↔ Holds t U v
    holds_iff (named n) v r = same_iff (t.label v) n
    holds_iff (not U) v r = trans (T-neg (holdsb t U v)) (¬-iff (holds_iff U v r))
    holds_iff (and U W) v r = trans (T-both (holdsb t U v) (holdsb t W v)) (×-iff (holds_iff U v r) (holds_iff W v r))
    holds_iff (or U W) v r = trans (T-either (holdsb t U v) (holdsb t W v)) (⊎-iff (holds_iff U v r) (holds_iff W v r))
    holds_iff (compare o P Q) v r =
        two_nodes (λ w. reachb t P v w) (λ u. reachb t Q v u) (λ w. Reaches t P v w) (λ u. Reaches t Q v u)
        (λ w u. relb o (t.value w) (t.value u)) (λ w u. Rel o (t.value w) (t.value u))
        (λ w x. reach_iff P v w r x) (λ w h. reaches_inside P v w r h) (λ u x. reach_iff Q v u r x) (λ u h. reaches_inside Q v u r h)
        (λ w u. rel_iff o (t.value w) (t.value u))
    holds_iff (compare_to o P c) v r =
        trans
        (some_node (λ w. both (reachb t P v w) (relb o (t.value w) (trim c))) (λ w. Reaches t P v w × Rel o (t.value w) (trim c))
        (λ w x. trans (T-both (reachb t P v w) (relb o (t.value w) (trim c))) (×-iff (reach_iff P v w r x) (rel_iff o (t.value w) (trim c))))
        (λ w h. reaches_inside P v w r h.0))
        flat
    holds_iff (at_least n P) v r =
        trans (trans (leb_iff n (count_below t.size (λ w. reachb t P v w))) (swap (at_least_number (count_number t.size (λ w. reachb t P v w)))))
        (at_least_iff (λ w. (λ (x, h). (reach_iff P v w r x).0 h, λ h. let x = reaches_inside P v w r h in (x, (reach_iff P v w r x).1 h))))

    pub reach_iff : (P : XPath) (v w : ℕ) → v < t.size → w < t.size → T (reachb t P v w) ↔ Reaches t P v w
    reach_iff empty v w r x = eqb_iff v w
    reach_iff (one s) v w r x = move_iff s v w r x
    reach_iff (seq P Q) v w r x =
        trans
        (some_node (λ u. both (reachb t P v u) (reachb t Q u w)) (λ u. Reaches t P v u × Reaches t Q u w)
        (λ u y. trans (T-both (reachb t P v u) (reachb t Q u w)) (×-iff (reach_iff P v u r y) (reach_iff Q u w y x)))
        (λ u h. reaches_inside P v u r h.0))
        flat
    reach_iff (union P Q) v w r x = trans (T-either (reachb t P v w) (reachb t Q v w)) (⊎-iff (reach_iff P v w r x) (reach_iff Q v w r x))
    reach_iff (star P) v w r x =
        close_iff (λ a b. reachb t P a b) t.size (λ a b. Reaches t P a b) (λ a b y z. reach_iff P a b y z) (λ a b y h. reaches_inside P a b y h) v w r x

    pub move_iff : (s : Step) (v w : ℕ) → v < t.size → w < t.size → T (moveb t s v w) ↔ Moves t s v w
    move_iff to_left v w r x = child_iff t true v w
    move_iff to_right v w r x = child_iff t false v w
    move_iff from_left v w r x = child_iff t true w v
    move_iff from_right v w r x = child_iff t false w v
    move_iff (stay U) v w r x = trans (T-both (eqb v w) (holdsb t U v)) (×-iff (eqb_iff v w) (holds_iff U v r))

-- ── Well-formed trees ──
abbrev impb : Bool → Bool → Bool
impb a b = either (neg a) b

imp_by : (a b : Bool) → T (impb a b) → T a → T b
imp_by true b h k = h
imp_by false b h k = absurd k

module _ (t : Tree) where
  -- v is numbered behind its parent
  abbrev upb : ℕ → Bool
  upb v = impb (ltb 0 v) (ltb (t.parent v) v)

  -- if w is v's left child, it is the next node
  abbrev nextb : ℕ → ℕ → Bool
  nextb v w = impb (childb t true v w) (eqb w (suc v))

  -- if w and u are v's right children, they are one
  abbrev rightb : ℕ → ℕ → ℕ → Bool
  rightb v w u = impb (childb t false v w) (impb (childb t false v u) (eqb w u))

  abbrev pairb : ℕ → ℕ → Bool
  pairb v w = both (nextb v w) (every_below t.size (rightb v w))

  abbrev nodeb : ℕ → Bool
  nodeb v = both (upb v) (every_below t.size (pairb v))

  abbrev pub formedb : Bool
  formedb = both (ltb 0 t.size) (every_below t.size nodeb)

  module _ (h : T formedb) where
    node : (v : ℕ) → v < t.size → T (upb v) × T (every_below t.size (pairb v))
    node v r = (T-both (upb v) (every_below t.size (pairb v))).0 (every_by t.size nodeb ((T-both (ltb 0 t.size) (every_below t.size nodeb)).0 h).1 v r)

    up : (v : ℕ) → 0 < v → v < t.size → t.parent v < v
    up v l r = ltb→lt (t.parent v) v (imp_by (ltb 0 v) (ltb (t.parent v) v) (node v r).0 (lt→ltb 0 v l))

    pair : (side : Bool) (v w : ℕ) → Child t side v w → T (nextb v w) × T (every_below t.size (rightb v w))
    pair side v w c =
        let l = up w c.inner c.inside in let e = c.above in let r = c.inside in
        (T-both (nextb v w) (every_below t.size (rightb v w))).0 (every_by t.size (pairb v) (node v (omega arith)).1 w r)

    next : (v w : ℕ) → Child t true v w → w ≡ suc v
    next v w c = eqb→eq w (suc v) (imp_by (childb t true v w) (eqb w (suc v)) (pair true v w c).0 ((child_iff t true v w).1 c))

    only : (v w u : ℕ) → Child t false v w → Child t false v u → w ≡ u
    only v w u c d =
        let h = every_by t.size (rightb v w) (pair false v w c).1 u d.inside in
        let k = imp_by (childb t false v w) (impb (childb t false v u) (eqb w u)) h ((child_iff t false v w).1 c) in
        eqb→eq w u (imp_by (childb t false v u) (eqb w u) k ((child_iff t false v u).1 d))

    pub formed_by : WellFormed t
    formed_by = record { rooted = ltb→lt 0 t.size ((T-both (ltb 0 t.size) (every_below t.size nodeb)).0 h).0; upwards = up; left_next = next; one_right = only }
