-- `pairs::widen::widen` meets its contract.
use native.Mathlib.Omega.{arith}
use Rattle.matrices.proofs.Widening.{widening_none, widening_to}
use Rattle.pairs.proofs.Widening.{widen_step}
use Rattle.pairs.proofs.widen.widen.Goals as goal

pub loop-a-init : goal.loop-a-init
loop-a-init c = (omega arith, widening_none _ _ _)

pub loop-a-preserved : goal.loop-a-preserved
loop-a-preserved c = (omega arith, widen_step c.args.back c.requires.0 c.requires.1 c.requires.2 (omega arith) c.row-w.ensures c.loop-a.invariant.1 c.add-r.ensures)

pub returns : goal.returns
returns c = widening_to (omega arith) c.loop-a.invariant.1
