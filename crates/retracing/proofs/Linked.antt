-- The links of a drawn tree agree, and the same words agree too.
use Prim.Native.Nat.{ℕ, ◌*◌, ◌≤◌, ◌<◌}
use mathlib.Core.Path.{◌≡◌, sym, ◌∙◌, subst}
use mathlib.Core.Logic.{◌⊎◌, inl, inr}
use mathlib.Core.Bool.{Bool, true, false}
use mathlib.Core.List.{List}
use native.Mathlib.Omega.{arith}
use lib.ListN.{get_or}
use Rattle.xpath.specs.Syntax.{XPath}
use Rattle.xpath.specs.Tree.{Tree, Child}
use Rattle.layout.specs.Part.{HIT}
use Rattle.layout.specs.Table.{LEFT, PARENT, column}
use Rattle.layout.specs.Words.{NONE, word}
use Rattle.table.specs.Links.{Points}
use Rattle.machine.specs.Meaning.{Drawn}
use Rattle.retracing.specs.Backward.{LinkedBothWays}

pub linked_drawn : {P R : XPath} {t : Tree} {n : ℕ} {p : List ℕ} → Drawn P R t n p → LinkedBothWays n p
linked_drawn {t = t} {n = n} {p = p} drawn = record { left = back true; right = back false }
  where
    above : (v u : ℕ) → ((u ≡ 0) × (word p n PARENT u ≡ NONE)) ⊎ ((0 < u) × (word p n PARENT u ≡ t.parent u)) → (side : Bool) → Child t side v u → word p n PARENT u ≡ v
    above v u (inl (e, none)) side c = absurd (omega arith)
    above v u (inr (l, e)) side c = e ∙ c.above

    child : (side : Bool) (v u : ℕ) → u < n → Points (Child t side v) (word p n (column side) v) → word p n (column side) v ≡ u → Child t side v u
    child side v u l (inl c) e = subst (λ x. Child t side v x) e c
    child side v u l (inr (none, f)) e = let few = drawn.few in absurd (omega arith)

    back : (side : Bool) (v u : ℕ) → v < n → u < n → word p n (column side) v ≡ u → word p n PARENT u ≡ v
    back side v u r l e = above v u (drawn.parents u l) side (child side v u l (drawn.children side v r) e)

pub linked_same : {n : ℕ} {p p' : List ℕ} → ((k : ℕ) → LEFT * n ≤ k → k < HIT * n → get_or p' k 0 ≡ get_or p k 0) → LinkedBothWays n p → LinkedBothWays n p'
linked_same same g =
    record {
      left = λ v u r l e. same _ (omega arith) (omega arith) ∙ g.left v u r l (sym (same _ (omega arith) (omega arith)) ∙ e);
      right = λ v u r l e. same _ (omega arith) (omega arith) ∙ g.right v u r l (sym (same _ (omega arith) (omega arith)) ∙ e);
    }
