-- The ranks stay where the words of their column do.
use Prim.Native.Nat.{ℕ, ◌<◌}
use mathlib.Core.Path.{◌≡◌, sym, subst, subst₂}
use mathlib.Core.Logic.{◌↔◌}
use mathlib.Core.List.{List}
use lib.ListN.{length}
use Rattle.string_order.specs.Bytes.{Less}
use Rattle.document_spec.specs.Library.{Node}
use Rattle.document_spec.specs.Binary.{compared_of}
use Rattle.layout.specs.Table.{RANK}
use Rattle.layout.specs.Words.{word}
use Rattle.ranks.specs.Ranks.{Ranked}

pub ranked_same : {ns : List Node} {t t' : List ℕ} → ((v : ℕ) → v < length ns → word t' (length ns) RANK v ≡ word t (length ns) RANK v) → Ranked ns t → Ranked ns t'
ranked_same {ns} same h = record {
  small = λ v l. subst (λ x. x < length ns) (sym (same v l)) (h.small v l);
  ordered = λ v w l k. subst₂ (λ x y. (x < y) ↔ Less (compared_of ns v) (compared_of ns w)) (sym (same v l)) (sym (same w k)) (h.ordered v w l k);
  same = λ v w l k. subst₂ (λ x y. (x ≡ y) ↔ (compared_of ns v ≡ compared_of ns w)) (sym (same v l)) (sym (same w k)) (h.same v w l k);
}
