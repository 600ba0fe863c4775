-- `detours::begin::draw` meets its contract.
use native.Mathlib.Omega.{arith}
use Rattle.matrices.proofs.Members.{and_iff}
use Rattle.matrices.proofs.Drawing.{drawing_none, drawing_step, drawing_to}
use Rattle.detours.proofs.begin.draw.Goals as goal

pub loop-i-init : goal.loop-i-init
loop-i-init c = (omega arith, drawing_none _ _ _)

pub loop-i-preserved : goal.loop-i-preserved
loop-i-preserved c = (omega arith, drawing_step c.loop-i.invariant.1 c.meet.result (omega arith) (λ j h. and_iff _ _ _ (c.meet.ensures j)))

pub returns : goal.returns
returns c = drawing_to (omega arith) c.loop-i.invariant.1
