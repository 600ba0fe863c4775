-- `path_sets::sets::given` meets its contract.
use mathlib.Core.Path.{sym, ap, ◌∙◌}
use Rattle.bits.specs.Sets.{bit, and}
use Rattle.bits.proofs.SetLaws.{bit_none}
use Rattle.path_sets.proofs.sets.given.Goals as goal

pub returns-then-a : goal.returns-then-a
returns-then-a c = λ i. sym (ap (λ a. and a (bit c.args.w i)) c.if-a.true)

pub returns-else-a : goal.returns-else-a
returns-else-a c = λ i. bit_none i ∙ sym (ap (λ a. and a (bit c.args.w i)) c.if-a.false)
