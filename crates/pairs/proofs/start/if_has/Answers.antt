-- `pairs::start::if_has` meets its contract.
use mathlib.Core.Path.{sym, ◌∙◌}
use mathlib.Core.Bool.{false≢true}
use Rattle.bits.proofs.SetLaws.{bit_none}
use Rattle.pairs.proofs.start.if_has.Goals as goal

pub returns : goal.returns
returns c b = (λ e. absurd (false≢true (sym (bit_none b) ∙ e)), λ e. absurd (false≢true (sym c.if-has.false ∙ c.has.ensures ∙ e.0)))
