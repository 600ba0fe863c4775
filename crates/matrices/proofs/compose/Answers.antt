-- `matrices::compose` meets its contract.
use native.Mathlib.Omega.{arith}
use Rattle.matrices.proofs.Drawing.{drawing_none, drawing_to, compose_step}
use Rattle.matrices.proofs.compose.Goals as goal

pub loop-i-init : goal.loop-i-init
loop-i-init c = (omega arith, drawing_none _ _ _)

pub loop-i-preserved : goal.loop-i-preserved
loop-i-preserved c =
    let n = c.requires in
    (omega arith, compose_step c.image.result c.loop-i.invariant.1 n.0 n.1 (omega arith) (omega arith) c.image.ensures)

pub returns : goal.returns
returns c = let d = drawing_to {m = 16} (omega arith) c.loop-i.invariant.1 in (d.frame, d.done)
