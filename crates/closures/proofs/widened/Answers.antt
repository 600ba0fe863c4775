-- `closures::widened` meets its contract.
use mathlib.Core.Path.{sym, ◌∙◌}
use Rattle.closures.proofs.Rows.{widened, not_widened}
use Rattle.closures.proofs.widened.Goals as goal

pub returns-then-has : goal.returns-then-has
returns-then-has c = widened c.args.row c.args.k c.args.added c.union.result (sym c.has.ensures ∙ c.if-has.true) c.union.ensures

pub returns : goal.returns
returns c = not_widened c.args.row c.args.k c.args.added (sym c.has.ensures ∙ c.if-has.false)
