-- `edge_snippets::rows::across` meets its contract.
use mathlib.Core.Path.{sym, ◌∙◌}
use Rattle.edge_snippets.proofs.Crossing.{across_first, across_second}
use Rattle.edge_snippets.proofs.rows.across.Goals as goal

pub returns-then-has : goal.returns-then-has
returns-then-has c = let x = c.args in across_first x.set x.first x.i c.without.result (sym c.has.ensures ∙ c.if-has.true) c.without.ensures

pub returns : goal.returns
returns c = let x = c.args in across_second x.set x.first x.i c.meet.result (sym c.has.ensures ∙ c.if-has.false) c.meet.ensures
