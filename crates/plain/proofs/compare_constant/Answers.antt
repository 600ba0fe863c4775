-- `plain::compare_constant` meets its contract.
use mathlib.Core.Logic.Iff
use Rattle.machine.specs.Walks.{Hits}
use Rattle.rank_sets.proofs.Steady.{held_none, held_then, held_space}
use Rattle.plain.proofs.Steady.{held_answer}
use Rattle.plain.proofs.Walks.{hits_same}
use Rattle.plain.proofs.Answering.{answers_none, answers_step, answers_all}
use Rattle.plain.proofs.compare_constant.Goals as goal

pub loop-v-init : goal.loop-v-init
loop-v-init c = let x = c.args in (held_none x.n x.p.now, answers_none x.n (Hits x.m x.n x.p.now) x.p.now)

pub hits_at-b-requires : goal.hits_at-b-requires
hits_at-b-requires c = (held_space c.loop-v.invariant.0 c.requires, c.loop-v-test.true)

pub answer-requires : goal.answer-requires
answer-requires c = (held_space (held_then c.loop-v.invariant.0 c.hits_at-b.ensures.0.held) c.requires, c.loop-v-test.true)

pub loop-v-preserved : goal.loop-v-preserved
loop-v-preserved c = let h = c.loop-v.invariant.0 in let l = c.loop-v-test.true in let b = c.hits_at-b in let w = c.answer.ensures in (
  held_then (held_then h b.ensures.0.held) (held_answer l w),
  answers_step b.result l c.loop-v.invariant.1 b.ensures.0 (Iff.trans b.ensures.1 (Iff.symm (hits_same h c.loop-v.v l))) w,
)

pub returns : goal.returns
returns c = let g = c.loop-v.invariant in answers_all c.loop-v-test.false g.0 g.1
