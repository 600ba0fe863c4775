-- `halving::passes::add_upper` meets its contract.
use native.Mathlib.Omega.{arith}
use Rattle.matrices.proofs.Drawing.{drawing_none, drawing_to}
use Rattle.halving.proofs.Adding.{upper_step}
use Rattle.halving.proofs.passes.add_upper.Goals as goal

pub loop-i-init : goal.loop-i-init
loop-i-init c = (omega arith, drawing_none _ _ _)

-- ── One turn of the loop ──
pub loop-i-preserved : goal.loop-i-preserved
loop-i-preserved c =
    let n = c.requires in
    let l = c.loop-i.invariant in
    let new = c.before-new in
    (omega arith, upper_step new.result c.union.result c.union.ensures (omega arith) (omega arith) _ _ n.0 n.1 l.1 new.ensures)

-- ── What is returned ──
pub returns : goal.returns
returns c = drawing_to (omega arith) c.loop-i.invariant.1
