-- What the words say of a node and its parent, and of the steps between them, is so in the tree.
use Prim.Native.Nat.{ℕ, ◌<◌}
use mathlib.Core.Path.{◌≡◌, sym, subst}
use mathlib.Core.Logic.{◌⊎◌, inl, inr, ◌↔◌}
use mathlib.Core.Bool.{Bool, true, false, true≢false}
use mathlib.Core.List.{List}
use native.Mathlib.Omega.{arith}
use Rattle.bits.specs.Sets.{bit}
use Rattle.xpath.specs.Syntax.{Test, XPath, stay}
use Rattle.xpath.specs.Tree.{Tree, Child}
use Rattle.xpath.specs.Meaning.{Holds}
use Rattle.xpath.proofs.Trees.{parent_of_lem, one_parent, child_after}
use Rattle.positions.specs.Positions.{Follows}
use Rattle.snippets.proofs.Edges.{step_down, step_up}
use Rattle.layout.specs.Part.{STAYS}
use Rattle.layout.specs.Table.{LEFT, PARENT}
use Rattle.layout.specs.Words.{NONE, word}
use Rattle.machine.specs.declared.Machine.{Machine}
use Rattle.machine.specs.Meaning.{IsStep}
use Rattle.machine.proofs.Walking.{child_inside, link_child, parent_word}
use Rattle.loops.specs.Loops.{Stage}
use Rattle.detours.specs.Detours.{downs, ups, OnSide, Goes}

module _ {P R : XPath} {t : Tree} {m : Machine} {n : ℕ} {p : List ℕ} (stage : Stage P R t m n p) where
  -- ── Steps ──
  goes_by : (w i j : ℕ) {A : Type 0} → i < 16 → j < 16 → (bit w j ≡ true) ↔ A → Goes m w i j ↔ (Follows P R i j × A)
  goes_by w i j l r h =
      let f = stage.machine.rows i j l r in
      (λ g. (f.0 g.follows, h.0 g.step), λ (a, b). record { follows = f.1 a; step = h.1 b })

  pub goes_down : (side : Bool) (i j : ℕ) → i < 16 → j < 16 → Goes m (downs m side) i j ↔ (Follows P R i j × IsStep P R j (step_down side))
  goes_down true i j l r = goes_by m.left i j l r (stage.machine.left j r)
  goes_down false i j l r = goes_by m.right i j l r (stage.machine.right j r)

  pub goes_up : (side : Bool) (i j : ℕ) → i < 16 → j < 16 → Goes m (ups m side) i j ↔ (Follows P R i j × IsStep P R j (step_up side))
  goes_up true i j l r = goes_by m.leftup i j l r (stage.machine.from_left j r)
  goes_up false i j l r = goes_by m.rightup i j l r (stage.machine.from_right j r)

  pub goes_stay : (v i j : ℕ) → v < n → i < 16 → j < 16 → Goes m (word p n STAYS v) i j ↔ (Follows P R i j × ((T : Test) × IsStep P R j (stay T) × Holds t T v))
  goes_stay v i j r l q = goes_by (word p n STAYS v) i j l q (stage.drawn.tests v j r q)

  -- ── Parents ──
  parent_child : (v : ℕ) → 0 < v → v < n → Child t (t.is_left v) (word p n PARENT v) v
  parent_child v h l = go (stage.drawn.parents v l)
    where
      go : ((v ≡ 0) × (word p n PARENT v ≡ NONE)) ⊎ ((0 < v) × (word p n PARENT v ≡ t.parent v)) → Child t (t.is_left v) (word p n PARENT v) v
      go (inl (e, none)) = absurd (omega arith)
      go (inr (k, e)) = let s = stage.drawn.size in subst (λ u. Child t (t.is_left v) u v) (sym e) (parent_of_lem h (omega arith))

  -- the parent is numbered before the node
  pub parent_before : (v : ℕ) → 0 < v → v < n → word p n PARENT v < v
  parent_before v h l = child_after stage.formed (parent_child v h l)

  -- the side that the words tell is the side in the tree
  pub side_child : (side : Bool) (v : ℕ) → 0 < v → v < n → OnSide p n v side → Child t side (word p n PARENT v) v
  side_child side v h l e = go side (t.is_left v) (parent_child v h l) e
    where
      left : (word p n LEFT (word p n PARENT v) ≡ v) ↔ Child t true (word p n PARENT v) v
      left = link_child stage.formed stage.machine stage.drawn true (word p n PARENT v) v (let b = parent_before v h l in omega arith) l

      go : (side b : Bool) → Child t b (word p n PARENT v) v → OnSide p n v side → Child t side (word p n PARENT v) v
      go true b c e = left.0 e
      go false true c f = absurd (f (left.1 c))
      go false false c f = c

  pub child_side : (side : Bool) (u v : ℕ) → Child t side u v → (word p n PARENT v ≡ u) × OnSide p n v side
  child_side side u v c = (e, on side c)
    where
      e : word p n PARENT v ≡ u
      e = parent_word stage.formed stage.machine stage.drawn v u c

      inside : v < n
      inside = child_inside stage.formed stage.machine stage.drawn c

      on : (b : Bool) → Child t b u v → OnSide p n v b
      on true c =
          let l = child_after stage.formed c in let h = inside in
          subst (λ x. word p n LEFT x ≡ v) (sym e) ((link_child stage.formed stage.machine stage.drawn true u v (omega arith) h).1 c)
      on false c = λ o. true≢false (one_parent (side_child true v c.inner inside o) c).1
