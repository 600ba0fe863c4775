-- Work behind the tree's own columns leaves the tree as it is.
use Prim.Native.Nat.{ℕ, ◌*◌, ◌≤◌, ◌<◌}
use mathlib.Core.Path.{subst}
use mathlib.Core.List.{List}
use lib.ListN.{length}
use native.Mathlib.Omega.{arith}
use Rattle.document_spec.specs.Library.{Node}
use Rattle.document_spec.specs.Verdict.{Accepts}
use Rattle.layout.specs.Table.{COLUMNS, RANK}
use Rattle.layout.specs.Words.{Kept}
use Rattle.table.specs.Links.{Linked}
use Rattle.table.specs.Tabled.{Tabled, Worked}
use Rattle.table.proofs.Linked.{linked_same}
use Rattle.table.proofs.Trees.{tree_size}

module _ {s : List ℕ} {n : ℕ} {t t' : List ℕ} (h : Tabled s n t) (q : Worked n t t') where
  pub worked_linked : (ns : List Node) → Accepts s ns → Linked s ns t → Linked s ns t'
  worked_linked ns a k = linked_same k (λ i r. q.front i (subst (λ m. i < RANK * m) (tree_size h ns a) r))

  pub worked_tree : Tabled s n t'
  worked_tree =
      record {
        nodes = h.nodes;
        accepts = h.accepts;
        linked = worked_linked h.nodes h.accepts h.linked;
        size = h.size;
        room = let l = q.long in let r = h.room in omega arith;
      }

  pub worked_kept : (ns : List Node) → Accepts s ns → Kept (COLUMNS * length ns) t t'
  worked_kept ns a = record { long = q.long; front = λ k r. absurd (omega arith); behind = λ k r. q.behind k (subst (λ m. COLUMNS * m ≤ k) (tree_size h ns a) r) }
