-- `reach::expand::if_linked` meets its contract.
use mathlib.Core.Path.{sym, ◌∙◌}
use mathlib.Core.Bool.{false≢true}
use Rattle.bits.proofs.SetLaws.{bit_none}
use Rattle.reach.proofs.expand.if_linked.Goals as goal

pub returns : goal.returns
returns c j = (λ b. absurd (false≢true (sym (bit_none j) ∙ b)), λ x. absurd (c.if-get-v.false (c.get.ensures.0 ∙ x.1)))
