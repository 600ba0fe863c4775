-- `closures::close` meets its contract.
use native.Mathlib.Omega.{arith}
use Rattle.closures.proofs.Warshall.{closing_none, closing_step, closing_all}
use Rattle.closures.proofs.close.Goals as goal

pub loop-k-init : goal.loop-k-init
loop-k-init c = (omega arith, closing_none _ _)

pub loop-k-preserved : goal.loop-k-preserved
loop-k-preserved c = (omega arith, closing_step (omega arith) c.loop-k.invariant.1 c.join.ensures)

pub returns : goal.returns
returns c = closing_all (omega arith) c.reflect.ensures c.loop-k.invariant.1
