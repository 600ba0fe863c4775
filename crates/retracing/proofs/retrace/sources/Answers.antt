-- `retracing::retrace::sources` meets its contract.
use mathlib.Core.Logic.Iff
use Rattle.retracing.proofs.Preceding.{sources, sources_none}
use Rattle.retracing.proofs.retrace.sources.Goals as goal

pub returns-then-w-eq0 : goal.returns-then-w-eq0
returns-then-w-eq0 c i l = let x = c.args in let k = c.meet-w in sources_none x.rows x.s x.steps k.result i k.ensures c.if-w-eq0.true

pub returns : goal.returns
returns c i l =
    let x = c.args in let k = c.meet-w in
    Iff.trans (c.predecessors.ensures i l) (sources x.rows x.s x.steps k.result i k.ensures)
