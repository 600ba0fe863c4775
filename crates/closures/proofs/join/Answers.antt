-- `closures::join` meets its contract.
use mathlib.Core.Path.{refl}
use native.Mathlib.Omega.{arith}
use Rattle.matrices.proofs.Drawing.{drawing_none, drawing_to}
use Rattle.closures.proofs.Rows.{join_step}
use Rattle.closures.proofs.join.Goals as goal

-- ── The row that is added, and entering the loop ──
pub loop-i-init : goal.loop-i-init
loop-i-init c = (omega arith, refl, drawing_none _ _ _)

-- ── One turn of the loop ──
pub loop-i-preserved : goal.loop-i-preserved
loop-i-preserved c =
    let l = c.loop-i.invariant in
    (omega arith, l.1, join_step c.widened.result c.args.k l.2 (omega arith) l.1 c.widened.ensures)

-- ── What is returned ──
pub returns : goal.returns
returns c = drawing_to (omega arith) c.loop-i.invariant.2
