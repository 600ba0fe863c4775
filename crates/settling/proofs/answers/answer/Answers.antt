-- `settling::answers::answer` meets its contract.
use native.Mathlib.Omega.{arith}
use Rattle.settling.proofs.Answering.{answering_none, answering_ready, answering_step, answering_to}
use Rattle.settling.proofs.answers.answer.Goals as goal

pub loop-v-init : goal.loop-v-init
loop-v-init c = (omega arith, answering_none _ _ _)

pub answer_at-requires : goal.answer_at-requires
answer_at-requires c = (answering_ready c.loop-v.invariant.0 c.requires.0 c.loop-v.invariant.1, omega arith, omega arith)

pub loop-v-preserved : goal.loop-v-preserved
loop-v-preserved c = (omega arith, answering_step c.requires.0 (omega arith) c.loop-v.invariant.1 c.answer_at.ensures)

pub returns : goal.returns
returns c = answering_to (omega arith) c.loop-v.invariant.1
