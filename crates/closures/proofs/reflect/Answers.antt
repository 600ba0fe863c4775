-- `closures::reflect` meets its contract.
use native.Mathlib.Omega.{arith}
use Rattle.matrices.proofs.Drawing.{drawing_none, drawing_to}
use Rattle.closures.proofs.Rows.{reflect_step}
use Rattle.closures.proofs.reflect.Goals as goal

pub loop-i-init : goal.loop-i-init
loop-i-init c = (omega arith, drawing_none _ _ _)

pub loop-i-preserved : goal.loop-i-preserved
loop-i-preserved c =
    let l = c.loop-i.invariant in
    (omega arith, reflect_step c.insert.result l.1 (omega arith) c.insert.ensures)

pub returns : goal.returns
returns c = drawing_to (omega arith) c.loop-i.invariant.1
