-- `retracing::predecessors::with_row` meets its contract.
use native.Mathlib.Omega.{arith}
use Rattle.retracing.proofs.Preceding.{common_none, common_some, row_skipped, row_taken}
use Rattle.retracing.proofs.predecessors.with_row.Goals as goal

pub returns-then-meet-eq0 : goal.returns-then-meet-eq0
returns-then-meet-eq0 c =
    let x = c.args in let k = c.meet in
    row_skipped x.r x.i (common_none x.row x.w k.result k.ensures c.if-meet-eq0.true)

pub returns : goal.returns
returns c =
    let x = c.args in let k = c.meet in let l = c.if-meet-eq0.false in
    row_taken x.r x.i (common_some x.row x.w k.result k.ensures (omega arith) (omega arith)) c.insert.result c.insert.ensures
