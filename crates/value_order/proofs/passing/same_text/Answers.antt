-- `value_order::passing::same_text` meets its contract.
use mathlib.Core.Path.{sym, ◌∙◌}
use Rattle.value_order.proofs.SameTexts.{same_text}
use borrow.Author.Tests.{eqb-true}
use Rattle.value_order.proofs.passing.same_text.Goals as goal

pub returns-then-get : goal.returns-then-get
returns-then-get c =
    let (z, i, j) = c.requires in
    let a = c.get.ensures.0 in let b = c.get-2.ensures.0 in
    let x = c.get-then-get.ensures.0 in let y = c.get-then-get-2.ensures.0 in
    λ e s ns h k. same_text h k i j (sym a ∙ c.if-get.true ∙ b) (sym x ∙ eqb-true _ _ e ∙ y)
