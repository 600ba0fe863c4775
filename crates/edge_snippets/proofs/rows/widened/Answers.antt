-- `edge_snippets::rows::widened` meets its contract.
use mathlib.Core.Path.{sym, ◌∙◌}
use Rattle.edge_snippets.proofs.Crossing.{widened, not_widened}
use Rattle.edge_snippets.proofs.rows.widened.Goals as goal

pub returns-then-has : goal.returns-then-has
returns-then-has c = let x = c.args in widened x.row x.rows x.set x.first x.i c.across.result c.union.result (sym c.has.ensures ∙ c.if-has.true) c.across.ensures c.union.ensures

pub returns : goal.returns
returns c = let x = c.args in not_widened x.row x.rows x.set x.first x.i (sym c.has.ensures ∙ c.if-has.false)
