-- Exponent 0: a node and its parent.
use Prim.Native.Nat.{ℕ, ◌≤◌, ◌<◌}
use mathlib.Core.Path.{◌≡◌, sym, subst}
use mathlib.Core.Logic.Iff
use mathlib.Core.Logic.{◌⊎◌, inl, inr, ◌↔◌}
use mathlib.Core.Bool.{Bool}
use mathlib.Core.List.{List}
use lib.ListN.{get_or}
use native.Mathlib.Omega.{arith}
use Rattle.xpath.specs.Syntax.{XPath, Step}
use Rattle.xpath.specs.Tree.{Tree, Child, Down}
use Rattle.xpath.proofs.Trees.{child_after, down_le}
use Rattle.positions.specs.Positions.{Follows, Comes}
use Rattle.snippets.proofs.Edges.{Crossing, step_down, step_up, edge_down, edge_up, comes_few}
use Rattle.layout.specs.Blocks.{down_at, up_at, upper_at}
use Rattle.layout.specs.Part.{loop_at}
use Rattle.layout.specs.Table.{PARENT}
use Rattle.layout.specs.Words.{NONE, word}
use Rattle.machine.specs.declared.Machine.{Machine}
use Rattle.machine.specs.Meaning.{IsStep}
use Rattle.machine.proofs.Walking.{step_few}
use Rattle.detours.specs.Detours.{downs, ups, OnSide, Goes}
use Rattle.loops.proofs.Sides.{goes_down, goes_up, side_child, parent_before}
use Rattle.matrices.specs.Matrices.{Related}
use Rattle.powers.specs.Powers.{Power, Ready}
use Rattle.powers.specs.Blocks.{Crossed, Edge}
use Rattle.powers.proofs.Ancestors.{one_above}
use Rattle.powers.proofs.Doubling.{none_power}

module _ {P R : XPath} {t : Tree} {m : Machine} {n : ℕ} {p : List ℕ} (ready : Ready P R t m n p) where
  -- over an edge from u to v, by its step s
  crossed : {u v : ℕ} (w : ℕ) (s : Step) → u < n → v < n → ((k l : ℕ) → k < 16 → l < 16 → Goes m w k l ↔ (Follows P R k l × IsStep P R l s))
      → ((i j : ℕ) → Comes P R t i u j v ↔ Crossing P R t s u v i u j v)
      → (i j : ℕ) → i < 16 → j < 16 → Crossed m.rows p (loop_at n u) w (loop_at n v) i j ↔ Comes P R t i u j v
  crossed {u} {v} w s hu hv goes edge i j l r = (to, from)
    where
      to : Crossed m.rows p (loop_at n u) w (loop_at n v) i j → Comes P R t i u j v
      to (k, f, a, (k', g, z, b)) =
          let (c, d) = (goes k k' f g).0 (record { follows = z.0; step = z.1 }) in
          (edge i j).1 (record { from = k; to = k'; before = (ready.loops u i k hu l f).0 a; follows = c; numbered = d; after = (ready.loops v k' j hv g r).0 b })

      from : Comes P R t i u j v → Crossed m.rows p (loop_at n u) w (loop_at n v) i j
      from c =
          let z = (edge i j).0 c in
          let f = comes_few P R t ready.stage.machine.few z.before l in
          let g = step_few ready.stage.formed ready.stage.machine ready.stage.drawn z.to s z.numbered in
          let d = (goes z.from z.to f g).1 (z.follows, z.numbered) in
          (z.from, f, (ready.loops u i z.from hu l f).1 z.before, (z.to, g, (d.follows, d.step), (ready.loops v z.to j hv g r).1 z.after))

  module _ {side : Bool} {x y : ℕ} (inside : y < n) (child : Child t side x y) where
    within : x < n
    within = let h = child_after ready.stage.formed child in omega arith

    crossed_down : (i j : ℕ) → i < 16 → j < 16 → Crossed m.rows p (loop_at n x) (downs m side) (loop_at n y) i j ↔ Comes P R t i x j y
    crossed_down = crossed (downs m side) (step_down side) within inside (goes_down ready.stage side) (edge_down P R t ready.stage.formed child)

    crossed_up : (i j : ℕ) → i < 16 → j < 16 → Crossed m.rows p (loop_at n y) (ups m side) (loop_at n x) i j ↔ Comes P R t i y j x
    crossed_up = crossed (ups m side) (step_up side) inside within (goes_up ready.stage side) (edge_up P R t ready.stage.formed child)

    edge_power : {p' : List ℕ} → Edge m n x y (downs m side) (ups m side) p p' → Power P R t n p' 0 y
    edge_power {p'} e = record {
      upper = inl (subst (λ (u : ℕ). Down t u y 1) (sym e.upper) near);
      down = λ x' i j d l r.
          subst (λ (u : ℕ). Related p' (down_at n 0 y) i j ↔ Comes P R t i u j y) (one_above ready.stage.formed near d) (Iff.trans (e.down i j l r) (crossed_down i j l r));
      up = λ x' i j d l r.
          subst (λ (u : ℕ). Related p' (up_at n 0 y) i j ↔ Comes P R t i y j u) (one_above ready.stage.formed near d) (Iff.trans (e.up i j l r) (crossed_up i j l r));
    }
      where
        near : Down t x y 1
        near = Down.deeper Down.here child

  -- ── What the word of the parent tells ──
  parent_word : (y : ℕ) → y < n → word p n PARENT y < n → 0 < y
  parent_word y r h = go (ready.stage.drawn.parents y r)
    where
      go : ((y ≡ 0) × (word p n PARENT y ≡ NONE)) ⊎ ((0 < y) × (word p n PARENT y ≡ t.parent y)) → 0 < y
      go (inl (e, none)) = let few = ready.stage.drawn.few in absurd (omega arith)
      go (inr (k, e)) = k

  -- a parent
  pub parent_power : (side : Bool) {y x : ℕ} {p' : List ℕ} → y < n → x < n → x ≡ word p n PARENT y → OnSide p n y side
      → Edge m n x y (downs m side) (ups m side) p p' → Power P R t n p' 0 y
  parent_power side {y} {x} r h e on edge =
      let k = parent_word y r (omega arith) in
      edge_power r (subst (λ (u : ℕ). Child t side u y) (sym e) (side_child ready.stage side y k r on)) edge

  -- none
  pub root_power : {y : ℕ} {p' : List ℕ} → y < n → n ≤ word p n PARENT y → get_or p' (upper_at n 0 y) 0 ≡ NONE → Power P R t n p' 0 y
  root_power {y} r h e = none_power e (λ x d. first (ready.stage.drawn.parents y r) (let l = down_le t ready.stage.formed d in omega arith))
    where
      first : ((y ≡ 0) × (word p n PARENT y ≡ NONE)) ⊎ ((0 < y) × (word p n PARENT y ≡ t.parent y)) → 0 < y → ⊥
      first (inl (z, none)) l = omega arith
      first (inr (k, z)) l = let b = parent_before ready.stage y k r in omega arith
