-- What the finished table says, and that writing the other columns leaves it so.
use Prim.Native.Nat.{ℕ, ◌+◌, ◌*◌, ◌<◌}
use mathlib.Core.Path.{◌≡◌, sym, ap₂, subst}
use mathlib.Core.Logic.{◌≢◌, ⊎_elim}
use mathlib.Core.Bool.{Bool}
use mathlib.Core.List.{List}
use lib.ListN.{length, get_or}
use native.Mathlib.Omega.{arith}
use Rattle.xpath.specs.Tree.{Child}
use Rattle.document_spec.specs.Library.{Node}
use Rattle.document_spec.specs.Binary.{parent_of, tree_of}
use Rattle.document_lines.specs.Entries.{Stands}
use Rattle.layout.specs.Table.{LOW, HIGH, PARENT, column}
use Rattle.layout.specs.Words.{NONE, cell, word}
use Rattle.table.specs.Links.{Points, IsParent, Linked}
use Rattle.table.proofs.Cells.{sides}

module _ {s : List ℕ} {ns : List Node} {t : List ℕ} (h : Linked s ns t) {v : ℕ} (l : v < length ns) where
  -- a node's number is never the word for no node, so a test for that word tells whether there is a child
  pub child_some : (side : Bool) → word t (length ns) (column side) v ≢ NONE → Child (tree_of ns) side v (word t (length ns) (column side) v)
  child_some side f = ⊎_elim (λ k. k) (λ k. absurd (f k.0)) (h.children side v l)

  pub child_none : (side : Bool) → word t (length ns) (column side) v ≡ NONE → (w : ℕ) → ¬ Child (tree_of ns) side v w
  child_none side e =
      ⊎_elim (λ k. let r = k.inside in let few = (h.places v l).accepts.legal.few in absurd (omega arith)) (λ k. k.1) (h.children side v l)

  pub parent_some : 0 < v → word t (length ns) PARENT v ≡ parent_of ns v
  parent_some r = ⊎_elim (λ k. let e = k.0 in absurd (omega arith)) (λ k. k.1) (h.parents v l)

  pub parent_none : v ≡ 0 → word t (length ns) PARENT v ≡ NONE
  parent_none e = ⊎_elim (λ k. k.1) (λ k. let r = k.0 in absurd (omega arith)) (h.parents v l)

-- the tree is told by the first five columns
pub linked_same : {s : List ℕ} {ns : List Node} {t t' : List ℕ} → Linked s ns t
    → ((k : ℕ) → k < 5 * length ns → get_or t' k 0 ≡ get_or t k 0) → Linked s ns t'
linked_same {s} {ns} {t} {t'} h same =
    let n = length ns in
    record {
      places = λ v l. subst (λ i. Stands s ns v i)
          (ap₂ (λ lo hi. lo + 65_536 * hi) (sym (same (cell n LOW v) (omega arith))) (sym (same (cell n HIGH v) (omega arith)))) (h.places v l);
      children = λ side v l. let b = sides n side in
          subst (λ x. Points (Child (tree_of ns) side v) x) (sym (same (cell n (column side) v) (omega arith))) (h.children side v l);
      parents = λ v l. subst (λ x. IsParent ns v x) (sym (same (cell n PARENT v) (omega arith))) (h.parents v l);
    }
