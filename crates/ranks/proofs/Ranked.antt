-- Numbers of the nodes that are in the order of their values are ranks.
use Prim.Native.Nat.{ℕ, ◌<◌}
use mathlib.Core.Path.{◌≡◌, sym, subst}
use mathlib.Core.Logic.{◌↔◌}
use mathlib.Core.List.{List}
use lib.ListN.{length}
use native.Mathlib.Omega.{arith}
use Rattle.string_order.specs.Bytes.{Less}
use Rattle.document_spec.specs.Library.{Node}
use Rattle.document_spec.specs.Binary.{compared_of}
use Rattle.document_spec.specs.Verdict.{Accepts}
use Rattle.layout.specs.Table.{RANK}
use Rattle.layout.specs.Words.{word}
use Rattle.layout.proofs.Frames.{within_then, within_more}
use Rattle.table.specs.Links.{Linked}
use Rattle.table.specs.Tabled.{Tabled, Worked}
use Rattle.table.proofs.Trees.{tree_size}
use Rattle.table.proofs.Worked.{worked_linked, worked_kept}
use Rattle.sorting.specs.Sorting.{InOrder}
use Rattle.value_notes.specs.Notes.{Annotated, Noted}
use Rattle.value_notes.proofs.Annotated.{annotated_ranks}
use Rattle.ranks.specs.Ranks.{Ranked, Written}
use Rattle.ranks.specs.Sorting.{Sorting, Numbered}

pub ranked : {ns : List Node} {n : ℕ} {t : List ℕ} → length ns ≡ n → InOrder Less (compared_of ns) n (λ v. word t n RANK v) → Ranked ns t
ranked {ns} {n} {t} size g =
    record {
      small = λ v l. subst (λ m. word t m RANK v < m) (sym size) (g.small v (omega arith));
      ordered = λ v w l r. subst (λ m. (word t m RANK v < word t m RANK w) ↔ Less (compared_of ns v) (compared_of ns w)) (sym size)
          (g.ordered v w (omega arith) (omega arith));
      same = λ v w l r. subst (λ m. (word t m RANK v ≡ word t m RANK w) ↔ (compared_of ns v ≡ compared_of ns w)) (sym size)
          (g.same v w (omega arith) (omega arith));
    }

-- marked, then sorted, and then numbered
pub written : {s : List ℕ} {n : ℕ} {t t₁ t₂ t₃ : List ℕ} → Tabled s n t → Noted n t t₁ → Sorting s n n t₁ t₂ → Numbered s n t₂ t₃
    → (ns : List Node) → Accepts s ns → Linked s ns t → Written s ns t t₃
written {s} {n} {t} {t₁} {t₂} {t₃} h o p q ns a k =
    record {
      ranked = ranked size (q.done ns a (p.sorted ns a));
      linked = worked_linked h all ns a k;
      annotated = subst (λ m. Annotated s m t₃) (sym size) (annotated_ranks p.prepared.annotated q.within);
      kept = worked_kept h all ns a;
    }
  where
    size : length ns ≡ n
    size = tree_size h ns a

    all : Worked n t t₃
    all =
        within_then (within_more (omega arith) (omega arith) o)
        (within_then (within_more (omega arith) (omega arith) p.arranged) (within_more (omega arith) (omega arith) q.within))
