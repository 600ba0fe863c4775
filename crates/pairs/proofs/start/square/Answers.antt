-- `pairs::start::square` meets its contract.
use native.Mathlib.Omega.{arith}
use Rattle.matrices.proofs.Drawing.{drawing_none, drawing_step, drawing_to}
use Rattle.pairs.proofs.start.square.Goals as goal

pub loop-a-init : goal.loop-a-init
loop-a-init c = (omega arith, drawing_none _ _ _)

pub loop-a-preserved : goal.loop-a-preserved
loop-a-preserved c = (omega arith, drawing_step c.loop-a.invariant.1 c.if_has.result (omega arith) (λ b h. c.if_has.ensures b))

pub returns : goal.returns
returns c = drawing_to (omega arith) c.loop-a.invariant.1
