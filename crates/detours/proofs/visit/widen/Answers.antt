-- `detours::visit::widen` meets its contract.
use native.Mathlib.Omega.{arith}
use Rattle.matrices.proofs.Widening.{widening_none, widening_to}
use Rattle.detours.proofs.Detours.{widening_step}
use Rattle.detours.proofs.visit.widen.Goals as goal

pub loop-i-init : goal.loop-i-init
loop-i-init c = (omega arith, widening_none _ _ _)

pub loop-i-preserved : goal.loop-i-preserved
loop-i-preserved c =
    let l = c.loop-i.invariant.1 in
    (omega arith, widening_step c.requires.0 (omega arith) c.detour-w.ensures l c.add-r.ensures)

pub returns : goal.returns
returns c = widening_to (omega arith) c.loop-i.invariant.1
