-- The ranks of amounts are written behind those of the values, which stay.
use Prim.Native.Nat.{ℕ}
use mathlib.Core.Path.{◌≡◌, sym, subst}
use mathlib.Core.List.{List}
use native.Mathlib.Omega.{arith}
use lib.ListN.{length}
use Rattle.document_spec.specs.Library.{Node}
use Rattle.document_spec.specs.Verdict.{Accepts}
use Rattle.layout.specs.Table.{AMOUNT, COLUMNS, RANK}
use Rattle.layout.specs.Words.{Within}
use Rattle.layout.proofs.Frames.{before_within, frame_then, frame_wider, within_frame}
use Rattle.table.specs.Links.{Linked}
use Rattle.table.specs.Tabled.{Tabled}
use Rattle.table.proofs.Linked.{linked_same}
use Rattle.value_notes.specs.Notes.{Annotated}
use Rattle.value_notes.proofs.Annotated.{annotated_behind}
use Rattle.ranks.specs.Ranks.{Written}
use Rattle.ranks.proofs.Kept.{ranked_same}

-- the notes of the values are there when the values are ranked
pub written_annotated : {s : List ℕ} {n : ℕ} {t t₁ : List ℕ} → Tabled s n t → ((ns : List Node) → Accepts s ns → Linked s ns t → Written s ns t t₁) → Annotated s n t₁
written_annotated {s} {t₁ = t₁} h f = subst (λ m. Annotated s m t₁) h.size (f h.nodes h.accepts h.linked).annotated

pub written_within : {s : List ℕ} {ns : List Node} {n : ℕ} {t t₁ t₂ : List ℕ} → length ns ≡ n → Written s ns t t₁ → Within n AMOUNT COLUMNS t₁ t₂ → Written s ns t t₂
written_within {s} {ns} {n} {t} {t₁} {t₂} size h w = go (subst (λ m. Within m AMOUNT COLUMNS t₁ t₂) (sym size) w)
  where
    go : Within (length ns) AMOUNT COLUMNS t₁ t₂ → Written s ns t t₂
    go w = record {
      ranked = ranked_same (λ v l. before_within w RANK v (omega arith) l) h.ranked;
      linked = linked_same h.linked (λ k l. w.front k (omega arith));
      annotated = annotated_behind h.annotated (omega arith) w;
      kept = frame_then h.kept (frame_wider (omega arith) (omega arith) (within_frame w));
    }
