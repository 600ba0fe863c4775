-- Rounds over all nodes, until one of them changes nothing.
use Prim.Native.Nat.{ℕ, ◌+◌, ◌*◌, ◌-◌, ◌≤◌, ◌<◌}
use mathlib.Core.Path.{◌≡◌, refl, sym, ap, ◌∙◌, subst}
use mathlib.Core.Logic.{◌⊎◌, inl, inr}
use mathlib.Core.Bool.{false}
use mathlib.Core.List.{List}
use native.Mathlib.Nat.{eq-or-lt_of_le}
use native.Mathlib.Omega.{arith}
use Rattle.layout.specs.Blocks.{down_at, up_at}
use Rattle.layout.specs.Part.{pair_at}
use Rattle.layout.specs.Table.{PARENT}
use Rattle.layout.specs.Words.{word}
use Rattle.matrices.specs.Matrices.{Related, Drawing, pairs}
use Rattle.matrices.proofs.Pairs.{pairs_le, pairs_same, pairs_split}
use Rattle.matrices.specs.Widening.{Widening}
use Rattle.pairs.specs.Derived.{Over, LeadsOver, Derived}
use Rattle.pairs.specs.Growing.{Ready, Widened, Everywhere}
use Rattle.pair_rounds.specs.Rounds.{total, Passed, Rises, Falls, Still}
use Rattle.pairs.proofs.Grows.{grown_none, grown_then, drawn_grown}

-- ── One matrix ──
module _ {n v : ℕ} {A : ℕ → ℕ → Type 0} {p q : List ℕ} (inside : v < n) (d : Drawing A (pair_at n v) 16 p q) where
  -- what this matrix gains all matrices gain
  drawn_count : (r : ℕ) → r + pairs p (pair_at n v) 16 ≤ pairs q (pair_at n v) 16 → r + total n p ≤ total n q
  drawn_count r gain =
      let low = pairs_same p q (32 * n) (16 * v) (λ i l. d.frame.front (32 * n + i) (omega arith)) in
      let high = pairs_same p q (pair_at n v + 16) (16 * (n - v - 1)) (λ i l. d.frame.behind (pair_at n v + 16 + i) (omega arith)) in
      omega (arith, parts p, parts q)
    where
      parts : (s : List ℕ) → total n s ≡ pairs s (32 * n) (16 * v) + (pairs s (pair_at n v) 16 + pairs s (pair_at n v + 16) (16 * (n - v - 1)))
      parts s =
          let e : 16 * n ≡ 16 * v + (16 + 16 * (n - v - 1)) = omega arith in
          ap (pairs s (32 * n)) e ∙ pairs_split s (32 * n) (16 * v) (16 + 16 * (n - v - 1))
          ∙ ap (λ (a : ℕ). pairs s (32 * n) (16 * v) + a) (pairs_split s (pair_at n v) 16 (16 * (n - v - 1)))

-- ── One edge ──
-- what comes to a pair of u over the edge above y is a pair of v
abbrev Spread : ℕ → List ℕ → ℕ → ℕ → ℕ → Type 0
Spread n p v u at = (a b : ℕ) → a < 16 → b < 16 → Over (Related p (pair_at n u)) p at at a b → Related p (pair_at n v) a b

spread : {n y v u at r : ℕ} {p q : List ℕ} → v < n → u < n → 0 < y → y < n → LeadsOver n p y v u at
    → Widening (Widened p (pair_at n v) at (pair_at n u) false at) (pair_at n v) 16 p q r → Passed (Spread n p v u at) n p q r
spread {n} {y} {v} {u} {at} {r} {p} {q} above under inner below leads w = record {
  grown = drawn_grown above w.drawn (λ last held a b l r o.
      Derived.led y at inner below l r o.first_few o.second_few leads o.left o.right (held u o.first o.second under o.first_few o.second_few o.pair));
  count = drawn_count above w.drawn r w.count;
  still = w.still;
  settled = λ e a b l r o. subst (λ (x : List ℕ). Related x (pair_at n v) a b) (w.still e) ((w.drawn.done a b l r).1 (inr o));
}

-- the same offsets
widening_as : {at at' edge edge' by by' r : ℕ} {p q : List ℕ} → at ≡ at' → edge ≡ edge' → by ≡ by'
    → Widening (Widened p at edge by false edge) at 16 p q r → Widening (Widened p at' edge' by' false edge') at' 16 p q r
widening_as {at} {at'} {edge} {edge'} {by} {r = r} {p = p} {q = q} e f g w =
    subst (λ (x : ℕ). Widening (Widened p at' edge' x false edge') at' 16 p q r) g
    (subst (λ (x : ℕ). Widening (Widened p at' x by false x) at' 16 p q r) f (subst (λ (x : ℕ). Widening (Widened p x edge by false edge) x 16 p q r) e w))

above : {n : ℕ} {p : List ℕ} → Ready n p → (y : ℕ) → 0 < y → y < n → word p n PARENT y < n
above ready y inner below = let h = ready.parents y inner below in omega arith

module _ {n y x edge pairX pairY r : ℕ} {p q : List ℕ} (ready : Ready n p) (inner : 0 < y) (below : y < n) (ex : x ≡ word p n PARENT y)
    (epx : pairX ≡ pair_at n x) (epy : pairY ≡ pair_at n y) where
  pub risen : edge ≡ down_at n 0 y → Widening (Widened p pairX edge pairY false edge) pairX 16 p q r → Passed (Rises n p y) n p q r
  risen e w = spread (above ready y inner below) below inner below (inl (refl, refl, refl)) (widening_as (epx ∙ ap (pair_at n) ex) e epy w)

  pub fallen : edge ≡ up_at n 0 y → Widening (Widened p pairY edge pairX false edge) pairY 16 p q r → Passed (Falls n p y) n p q r
  fallen e w = spread below (above ready y inner below) inner below (inr (refl, refl, refl)) (widening_as epy e (epx ∙ ap (pair_at n) ex) w)

-- ── All edges ──
-- what holds where nothing changes holds of the start
passed_then : (B : List ℕ → Type 0) {A : Type 0} {n r s : ℕ} {p q q' : List ℕ} → Passed A n p q r → Passed (B q) n q q' s → Passed (A × B p) n p q' (r + s)
passed_then B a b = record {
  grown = grown_then a.grown b.grown;
  count = omega (arith, a.count, b.count);
  still = λ e. b.still (omega arith) ∙ a.still (omega arith);
  settled = λ e. (a.settled (omega arith), subst B (a.still (omega arith)) (b.settled (omega arith)));
}

pub passed_map : {A B : Type 0} {n r : ℕ} {p q : List ℕ} → (A → B) → Passed A n p q r → Passed B n p q r
passed_map f a = record { grown = a.grown; count = a.count; still = a.still; settled = λ e. f (a.settled e) }

pub passed_none : {A : Type 0} (n : ℕ) (p : List ℕ) → A → Passed A n p p 0
passed_none n p a = record { grown = grown_none n p; count = omega arith; still = λ e. refl; settled = λ e. a }

total_le : (n : ℕ) (p : List ℕ) → total n p ≤ 256 * n
total_le n p = let h = pairs_le p (32 * n) (16 * n) in omega arith

pub passed_small : {A : Type 0} {n r : ℕ} {p q : List ℕ} → Passed A n p q r → r ≤ 256 * n
passed_small {n = n} {q = q} a = omega (arith, a.count, total_le n q)

module _ (B : List ℕ → ℕ → Type 0) {n y r s : ℕ} {p q q' : List ℕ} where
  -- all nodes from y on that have a parent, and one before them
  pub up_more : Passed ((u : ℕ) → 0 < u → y ≤ u → u < n → B p u) n p q r → Passed (B q (y - 1)) n q q' s
      → Passed ((u : ℕ) → 0 < u → y - 1 ≤ u → u < n → B p u) n p q' (r + s)
  up_more a b = passed_map (λ (f, g) u h k l. go f g u h l (eq-or-lt_of_le k)) (passed_then (λ x. B x (y - 1)) a b)
    where
      go : ((u : ℕ) → 0 < u → y ≤ u → u < n → B p u) → B p (y - 1) → (u : ℕ) → 0 < u → u < n → (y - 1 ≡ u) ⊎ (y - 1 < u) → B p u
      go f g u h l (inl e) = subst (B p) e g
      go f g u h l (inr k) = f u h (omega arith) l

  -- all nodes before y that have a parent, and one more
  pub down_more : Passed (Everywhere (B p) y) n p q r → Passed (B q y) n q q' s → Passed (Everywhere (B p) (y + 1)) n p q' (r + s)
  down_more a b = passed_map (λ (f, g) u h l. go f g u h (eq-or-lt_of_le (omega arith))) (passed_then (λ x. B x y) a b)
    where
      go : Everywhere (B p) y → B p y → (u : ℕ) → 0 < u → (u ≡ y) ⊎ (u < y) → B p u
      go f g u h (inl e) = subst (B p) (sym e) g
      go f g u h (inr k) = f u h k

-- ── Both ways ──
pub both : {n r s : ℕ} {p q q' : List ℕ} → Passed (Everywhere (Rises n p) n) n p q r → Passed (Everywhere (Falls n q) n) n q q' s → Passed (Still n p) n p q' (r + s)
both {n} a b = passed_then (λ x. Everywhere (Falls n x) n) a b

-- a round adds at least as many pairs as it tells
pub round_less : {A : Type 0} {n r : ℕ} {p q : List ℕ} → Passed A n p q r → 256 * n - total n q + r ≤ 256 * n - total n p
round_less {n = n} {q = q} a = omega (arith, a.count, total_le n q)

-- a round that changes nothing leaves no more to spread
pub passed_still : {n r : ℕ} {p q : List ℕ} → Passed (Still n p) n p q r → r ≡ 0 → Still n q
passed_still {n} w e = subst (Still n) (sym (w.still e)) (w.settled e)
