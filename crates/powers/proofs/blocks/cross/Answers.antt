-- `powers::blocks::cross` meets its contract.
use native.Mathlib.Omega.{arith}
use Rattle.matrices.proofs.Drawing.{drawing_none, drawing_to}
use Rattle.powers.proofs.Crossing.{cross_step}
use Rattle.powers.proofs.blocks.cross.Goals as goal

pub loop-i-init : goal.loop-i-init
loop-i-init c = (omega arith, drawing_none _ _ _)

-- ── One turn of the loop ──
pub loop-i-preserved : goal.loop-i-preserved
loop-i-preserved c =
    let x = c.args in
    (omega arith, cross_step x.rows x.a x.w x.b c.followers.result c.meet-next.result c.image.result c.loop-i.invariant.1 (omega arith) (omega arith) (omega arith) (omega arith) c.followers.ensures c.meet-next.ensures c.image.ensures)

-- ── What is returned ──
pub returns : goal.returns
returns c = let d = drawing_to {m = 16} (omega arith) c.loop-i.invariant.1 in (d.frame, d.done)
