-- `value_order::comparison::by_ends` meets its contract.
use mathlib.Core.Path.{sym, ◌∙◌}
use mathlib.Core.Logic.{inl, inr}
use Rattle.value_order.proofs.Ends.{ends_texts, ends_alike, ends_spans}
use Rattle.value_order.proofs.comparison.by_ends.Goals as goal
use Rattle.value_order.proofs.comparison.by_ends.Goals.{then-is_ne-via-then-is_ne, then-is_ne-via-else-is_ne+then-x}

pub returns-then-is_ne : goal.returns-then-is_ne
returns-then-is_ne c = λ s ns v w few h g e f.
    ends_texts few h g e f c.cmp-o.result c.cmp-o.ensures
    (elim c.then-is_ne.branch [ then-is_ne-via-then-is_ne w ↦ inl (sym c.is_ne.ensures ∙ w.if-is_ne.true) | then-is_ne-via-else-is_ne+then-x w ↦ inr w.if-x.true ])

pub returns : goal.returns
returns c = λ s ns v w few h g e f.
    ends_spans few h g e f c.cmp.result c.cmp.ensures
    (ends_alike few h g e f c.cmp-o.result c.cmp-o.ensures (sym c.is_ne.ensures ∙ c.if-is_ne.false)) c.if-x.false
