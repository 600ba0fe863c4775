-- `plain::compare_paths` meets its contract.
use mathlib.Core.Logic.Iff
use Rattle.machine.specs.Walks.{Meets}
use Rattle.rank_sets.proofs.Steady.{held_none, held_then, held_space, held_small}
use Rattle.plain.proofs.Steady.{held_answer}
use Rattle.plain.proofs.Walks.{meets_same}
use Rattle.plain.proofs.Answering.{answers_none, answers_step, answers_all}
use Rattle.plain.proofs.compare_paths.Goals as goal

pub loop-v-init : goal.loop-v-init
loop-v-init c = let x = c.args in (held_none x.n x.p.now, λ q e. answers_none x.n (Meets x.m x.n x.p.now q) x.p.now)

pub meets_at-b-requires : goal.meets_at-b-requires
meets_at-b-requires c = let x = c.requires in let h = c.loop-v.invariant.0 in (held_space h x.0, λ e. held_small h (x.1 e), x.2, c.loop-v-test.true)

pub answer-requires : goal.answer-requires
answer-requires c = (held_space (held_then c.loop-v.invariant.0 c.meets_at-b.ensures.0.held) c.requires.0, c.loop-v-test.true)

pub loop-v-preserved : goal.loop-v-preserved
loop-v-preserved c = let h = c.loop-v.invariant.0 in let l = c.loop-v-test.true in let b = c.meets_at-b in let w = c.answer.ensures in (
  held_then (held_then h b.ensures.0.held) (held_answer l w),
  λ q e. answers_step b.result l (c.loop-v.invariant.1 q e) b.ensures.0 (Iff.trans (b.ensures.1 q e) (Iff.symm (meets_same h q c.loop-v.v l))) w,
)

pub returns : goal.returns
returns c = let g = c.loop-v.invariant in λ q e. answers_all c.loop-v-test.false g.0 (g.1 q e)
