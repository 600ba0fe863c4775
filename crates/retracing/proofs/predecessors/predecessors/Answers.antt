-- `retracing::predecessors::predecessors` meets its contract.
use native.Mathlib.Omega.{arith}
use Rattle.retracing.proofs.Preceding.{preceding_none, preceding_step, preceding_all}
use Rattle.retracing.proofs.predecessors.predecessors.Goals as goal

pub loop-i-init : goal.loop-i-init
loop-i-init c = preceding_none c.args.rows c.args.w

pub loop-i-preserved : goal.loop-i-preserved
loop-i-preserved c = let l = c.loop-i-test.true in preceding_step c.loop-i.invariant (omega arith) c.with_row-r.ensures

pub returns : goal.returns
returns c = let l = c.loop-i-test.false in preceding_all c.loop-i.invariant (omega arith)
