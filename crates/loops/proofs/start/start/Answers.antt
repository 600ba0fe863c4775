-- `loops::start::start` meets its contract.
use native.Mathlib.Omega.{arith}
use Rattle.loops.proofs.Grows.{ready_kept}
use Rattle.loops.proofs.Starting.{started_none, started_step, started_to}
use Rattle.loops.proofs.start.start.Goals as goal

pub loop-v-init : goal.loop-v-init
loop-v-init c = (omega arith, started_none _ _ _)

pub begin-requires : goal.begin-requires
begin-requires c = let s = c.loop-v.invariant.1 in (ready_kept s.frame c.requires, omega arith)

pub loop-v-preserved : goal.loop-v-preserved
loop-v-preserved c = (omega arith, started_step (omega arith) c.loop-v.invariant.1 c.begin.ensures)

pub returns : goal.returns
returns c = started_to (omega arith) c.loop-v.invariant.1
