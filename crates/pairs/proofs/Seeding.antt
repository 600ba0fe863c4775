-- The pairs that meet a snippet from an end of its edge are there, and stay.
use Prim.Native.Nat.{ℕ, ◌+◌, ◌<◌}
use mathlib.Core.Path.{◌≡◌, refl, sym, ap, ◌∙◌, subst}
use mathlib.Core.Logic.{◌⊎◌, inl, inr}
use mathlib.Core.Bool.{true, false}
use mathlib.Core.List.{List}
use native.Mathlib.Nat.{eq-or-lt_of_le}
use native.Mathlib.Omega.{arith}
use Rattle.layout.specs.Blocks.{down_at, up_at, snippet_at}
use Rattle.layout.specs.Part.{loop_at, pair_at}
use Rattle.layout.specs.Table.{PARENT}
use Rattle.layout.specs.Words.{word}
use Rattle.layout.proofs.Frames.{frame_then, within_then, within_back}
use Rattle.matrices.specs.Matrices.{Related, Apart, Drawing}
use Rattle.matrices.proofs.Drawing.{apart_same}
use Rattle.matrices.specs.Widening.{Widening}
use Rattle.pairs.specs.Derived.{Turned, Over, MeetsBy, Sees, Derived}
use Rattle.pairs.specs.Growing.{Ready, Widened, Planted, Grown, Met, Everywhere}
use Rattle.pairs.proofs.Widening.{SameAt, turned_same, over_same, meets_same}
use Rattle.pairs.proofs.Framing.{Outside, framed_same, framed_parent, sees_kept, sees_outside, snippet_outside}
use Rattle.pairs.proofs.Grows.{grown_then, drawn_grown}

-- ── One matrix, by both orders of a pair ──
pub planted : {by up down at r s : ℕ} {p q q' : List ℕ} → Apart by at → Apart up at → Apart down at
    → Widening (Widened p at up by false down) at 16 p q r → Widening (Widened q at down by true up) at 16 q q' s → Drawing (Planted p at by up down) at 16 p q'
planted {by} {up} {down} {at} {r} {s} {p} {q} {q'} one two three c e = record {
  frame = frame_then c.drawn.frame e.drawn.frame;
  done = λ a b l r. (λ x. to a b l r ((e.drawn.done a b l r).0 x), λ x. (e.drawn.done a b l r).1 (from a b l r x));
}
  where
    kept : (o : ℕ) → Apart o at → SameAt q p o
    kept o f k h = apart_same c.drawn o k f (omega arith) h

    kept_back : (o : ℕ) → Apart o at → SameAt p q o
    kept_back o f k h = sym (kept o f k h)

    old : (a b : ℕ) → Related p at a b ⊎ Over (Turned false p by) p up down a b → Planted p at by up down a b
    old a b (inl x) = inl x
    old a b (inr x) = inr (inl x)

    to : (a b : ℕ) → a < 16 → b < 16 → Widened q at down by true up a b → Planted p at by up down a b
    to a b l r (inl x) = old a b ((c.drawn.done a b l r).0 x)
    to a b l r (inr x) = inr (inr (over_same q p l r (kept down three) (kept up two) (λ i j h k. turned_same true q p by i j h k (kept by one)) x))

    from : (a b : ℕ) → a < 16 → b < 16 → Planted p at by up down a b → Widened q at down by true up a b
    from a b l r (inl x) = inl ((c.drawn.done a b l r).1 (inl x))
    from a b l r (inr (inl x)) = inl ((c.drawn.done a b l r).1 (inr x))
    from a b l r (inr (inr x)) = inr (over_same p q l r (kept_back down three) (kept_back up two) (λ i j h k. turned_same true p q by i j h k (kept_back by one)) x)

-- ── One end of an edge ──
-- what meets a snippet from v is a pair of v
abbrev MetFrom : ℕ → List ℕ → ℕ → ℕ → ℕ → ℕ → Type 0
MetFrom n p y v up down = (a b : ℕ) → a < 16 → b < 16 → MeetsBy p (snippet_at n 0 y) up down a b → Related p (pair_at n v) a b

met_as : (n y : ℕ) {v v' up up' down down' : ℕ} {p : List ℕ} → v ≡ v' → up ≡ up' → down ≡ down' → MetFrom n p y v' up' down' → MetFrom n p y v up down
met_as n y {v} {v'} {up} {up'} {down} {down'} {p} e f g m =
    subst (λ (z : ℕ). MetFrom n p y z up down) (sym e)
    (subst (λ (z : ℕ). MetFrom n p y v' z down) (sym f) (subst (λ (z : ℕ). MetFrom n p y v' up' z) (sym g) m))

met_from_kept : {n : ℕ} {p q : List ℕ} → Grown n p q → (y v up down : ℕ) → v < n → Outside n up → Outside n down → MetFrom n p y v up down → MetFrom n q y v up down
met_from_kept {n} {p} {q} g y v up down h o u met a b l r m = g.grow v a b h l r (met a b l r (meets_same q p (snippet_at n 0 y) l r (same (snippet_at n 0 y) (snippet_outside n y)) (same up o) (same down u) m))
  where
    same : (at : ℕ) → Outside n at → SameAt q p at
    same = framed_same (within_back g.framed)

module _ {n y v up down : ℕ} {p q : List ℕ} (inside : v < n) (inner : 0 < y) (below : y < n) (sees : Sees n p y v up down)
    (d : Drawing (Planted p (pair_at n v) (snippet_at n 0 y) up down) (pair_at n v) 16 p q) where
  planted_grown : Grown n p q
  planted_grown = drawn_grown inside d (λ last held a b l r m. Derived.met y up down inside inner below l r sees m)

  planted_met : MetFrom n q y v up down
  planted_met a b l r m =
      let (o, u) = sees_outside n p y v up down inside sees in
      let same : (at : ℕ) → Outside n at → SameAt q p at = framed_same (within_back planted_grown.framed) in
      (d.done a b l r).1 (inr (meets_same q p (snippet_at n 0 y) l r (same (snippet_at n 0 y) (snippet_outside n y)) (same up o) (same down u) m))

-- ── Both ends ──
-- the same offsets
planted_as : {at at' by by' up up' down down' : ℕ} {p q : List ℕ} → at ≡ at' → by ≡ by' → up ≡ up' → down ≡ down'
    → Drawing (Planted p at by up down) at 16 p q → Drawing (Planted p at' by' up' down') at' 16 p q
planted_as {at} {at'} {by} {by'} {up} {up'} {down} {p = p} {q = q} e f g h d =
    subst (λ (x : ℕ). Drawing (Planted p at' by' up' x) at' 16 p q) h
    (subst (λ (x : ℕ). Drawing (Planted p at' by' x down) at' 16 p q) g
    (subst (λ (x : ℕ). Drawing (Planted p at' x up down) at' 16 p q) f (subst (λ (x : ℕ). Drawing (Planted p x by up down) x 16 p q) e d)))

module _ {n y : ℕ} {p q q' : List ℕ} (ready : Ready n p) (inner : 0 < y) (below : y < n) where
  both_met : (x : ℕ) → x ≡ word p n PARENT y → x < n → Drawing (Planted p (pair_at n x) (snippet_at n 0 y) (loop_at n x) (down_at n 0 y)) (pair_at n x) 16 p q
      → Drawing (Planted q (pair_at n y) (snippet_at n 0 y) (up_at n 0 y) (loop_at n y)) (pair_at n y) 16 q q' → Grown n p q' × Met n q' y
  both_met x ex above d e = (grown_then one two, λ v up down a b l r s m. met v up down s a b l r m)
    where
      one : Grown n p q
      one = planted_grown above inner below (inl (ex, refl, refl)) d

      two : Grown n q q'
      two = planted_grown below inner below (inr (refl, refl, refl)) e

      met : (v up down : ℕ) → Sees n q' y v up down → MetFrom n q' y v up down
      met v up down (inl (a, b, c)) =
          let same : v ≡ x = a ∙ framed_parent (within_then one.framed two.framed) y below ∙ sym ex in
          met_as n y same (b ∙ ap (loop_at n) same) c
          (met_from_kept two y x (loop_at n x) (down_at n 0 y) above (inl (omega arith)) (inr (omega arith)) (planted_met above inner below (inl (ex, refl, refl)) d))
      met v up down (inr (a, b, c)) = met_as n y a b c (planted_met below inner below (inr (refl, refl, refl)) e)

  pub seeded : {u by loopX down pairX up loopY pairY : ℕ} → u ≡ word p n PARENT y → by ≡ snippet_at n 0 y
      → loopX ≡ loop_at n u → down ≡ down_at n 0 y → pairX ≡ pair_at n u → up ≡ up_at n 0 y → loopY ≡ loop_at n y → pairY ≡ pair_at n y
      → Drawing (Planted p pairX by loopX down) pairX 16 p q → Drawing (Planted q pairY by up loopY) pairY 16 q q' → Grown n p q' × Met n q' y
  seeded eu eby elx ed epx eup ely epy d e =
      both_met (word p n PARENT y) refl (let h = ready.parents y inner below in omega arith)
      (planted_as (epx ∙ ap (pair_at n) eu) eby (elx ∙ ap (loop_at n) eu) ed d)
      (planted_as epy eby eup ely e)

-- ── All edges ──
-- an edge without snippets has nothing to be met
pub met_nothing : (n : ℕ) (p : List ℕ) (y by : ℕ) → by ≡ snippet_at n 0 y → ((i j : ℕ) → i < 16 → ¬ Related p by i j) → Met n p y
met_nothing n p y by e empty v up down a b h l s m = absurd (go (subst (λ z. MeetsBy p z up down a b) (sym e) m))
  where
    go : MeetsBy p by up down a b → ⊥
    go (inl o) = empty o.first o.second o.first_few o.pair
    go (inr o) = empty o.second o.first o.second_few o.pair

pub met_kept : {n : ℕ} {p q : List ℕ} → Ready n p → Grown n p q → (y : ℕ) → 0 < y → y < n → Met n p y → Met n q y
met_kept {n} {p} {q} ready g y inner below met v up down a b l r sees m =
    let s = sees_kept (within_back g.framed) y v up down below sees in
    let inside = seen s in
    let (o, u) = sees_outside n p y v up down inside s in
    met_from_kept g y v up down inside o u (λ a b l r m. met v up down a b l r s m) a b l r m
  where
    seen : Sees n p y v up down → v < n
    seen (inl (e, f, g)) = let h = ready.parents y inner below in omega arith
    seen (inr (e, f, g)) = omega arith

-- one edge more
pub met_more : {n y : ℕ} {p q : List ℕ} → Ready n p → y < n → Grown n p q → Everywhere (Met n p) y → Met n q y → Everywhere (Met n q) (y + 1)
met_more {n} {y} {p} {q} ready inside g old new u h l = go (eq-or-lt_of_le (omega arith))
  where
    go : (u ≡ y) ⊎ (u < y) → Met n q u
    go (inl e) = subst (Met n q) (sym e) new
    go (inr k) = met_kept ready g u h (omega arith) (old u h k)
