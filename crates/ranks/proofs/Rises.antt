-- The number that stands for a rise: 1 at a greater value, told by a comparison or by twins.
use Prim.Native.Nat.{ℕ, ◌≤◌, ◌<◌}
use mathlib.Core.Path.{◌≡◌, sym, ap, ◌∙◌}
use mathlib.Core.Bool.{Bool, true, false}
use mathlib.Core.List.{List}
use native.Mathlib.Omega.{arith}
use Rattle.document_spec.specs.Library.{Node}
use Rattle.document_spec.specs.Binary.{compared_of}
use Rattle.document_spec.specs.Verdict.{Accepts}
use Rattle.layout.specs.Ranking.{TWIN}
use Rattle.layout.specs.Words.{word}
use Rattle.bits.specs.Sets.{one}
use Rattle.std.specs.declared.cmp.Ordering.{Ordering}
use Rattle.std.specs.declared.cmp.Ordering.TheVariants.{Less, Equal, Greater}
use Rattle.std.specs.Int.{from_bool}
use Rattle.std.specs.Ordering.{is_gt}
use Rattle.string_order.specs.Ordered.{Ordered}
use Rattle.value_order.specs.Less.{is_smaller}
use Rattle.value_order.specs.Twins.{Prepared}
use Rattle.sorting.proofs.Order.{less_asymmetric, less_distinct, one_less, one_not}
use Rattle.ranks.proofs.Order.{string_order_lem}

pub small : (b : Bool) → from_bool b ≤ 1
small true = omega arith
small false = omega arith

module _ (ns : List Node) (v u : ℕ) where
  -- of node v, by how its value compares with that of the node before it
  pub rises_told : (o : Ordering) → Ordered (compared_of ns v) (compared_of ns u) o → from_bool (is_gt o) ≡ one (is_smaller ns v u)
  rises_told Less h = one_not string_order_lem (compared_of ns u) (compared_of ns v) (less_asymmetric string_order_lem (compared_of ns v) (compared_of ns u) h)
  rises_told Equal h = one_not string_order_lem (compared_of ns u) (compared_of ns v) (λ k. less_distinct string_order_lem (compared_of ns u) (compared_of ns v) k (sym h))
  rises_told Greater h = one_less string_order_lem (compared_of ns u) (compared_of ns v) h

  -- both have the value of the one twin
  pub twins_same : {s : List ℕ} {n : ℕ} {t : List ℕ} → Prepared s n t → Accepts s ns → u < n → v < n → word t n TWIN u ≡ word t n TWIN v
      → compared_of ns v ≡ compared_of ns u
  twins_same h a l r e = sym (h.twins ns a v r).1 ∙ ap (λ (x : ℕ). compared_of ns x) (sym e) ∙ (h.twins ns a u l).1
