-- The loop that gives the ranks along the sorted nodes.
use Prim.Native.Nat.{ℕ, suc}
use mathlib.Core.Path.{sym, subst}
use mathlib.Core.List.{List}
use native.Mathlib.Omega.{arith}
use Rattle.string_order.specs.Bytes.{Less}
use Rattle.document_spec.specs.Library.{Node}
use Rattle.document_spec.specs.Binary.{compared_of}
use Rattle.document_spec.specs.Verdict.{Accepts}
use Rattle.layout.specs.Ranking.{TWIN}
use Rattle.layout.specs.Table.{RANK}
use Rattle.layout.specs.Words.{Within}
use Rattle.sorting.proofs.Numbering as Numbers
use Rattle.sorting.proofs.Numbering.{behind_within}
use Rattle.value_notes.proofs.Annotated.{annotated_ranks}
use Rattle.value_order.specs.Less.{is_less}
use Rattle.value_order.specs.Twins.{Twin, Prepared}

-- the ranks of the entries below i are written, and u is the last of them with the rank r
abbrev pub Numbering : List ℕ → ℕ → ℕ → ℕ → ℕ → List ℕ → List ℕ → Type 0
Numbering s n i u r t₀ t = (ns : List Node) → Accepts s ns → Numbers.Numbering Less is_less (compared_of ns) n RANK i u r t₀ t

-- a document is accepted, so it holds for one
pub numbering_one : {s : List ℕ} {n i u r : ℕ} {t₀ t : List ℕ} (h : Prepared s n t₀) → Numbering s n i u r t₀ t
    → Numbers.Numbering Less is_less (compared_of h.annotated.tabled.nodes) n RANK i u r t₀ t
numbering_one h g = let k = h.annotated.tabled in g k.nodes k.accepts

-- where ranks are written, values can be compared as before
pub ranks_prepared : {s : List ℕ} {n : ℕ} {t t' : List ℕ} → Prepared s n t → Within n RANK (suc RANK) t t' → Prepared s n t'
ranks_prepared {n} h q =
    record {
      annotated = annotated_ranks h.annotated q;
      twins = λ ns a v l. subst (λ x. Twin ns n v x) (sym (behind_within q TWIN v (omega arith))) (h.twins ns a v l);
    }
