-- `rank_sets::marks::mark_ranks` meets its contract.
use native.Mathlib.Omega.{arith}
use Rattle.rank_sets.proofs.Steady.{held_space, held_small}
use Rattle.rank_sets.proofs.Marking.{marking_none, marking_step, marking_all}
use Rattle.rank_sets.proofs.marks.mark_ranks.Goals as goal

pub loop-w-init : goal.loop-w-init
loop-w-init c = let x = c.args in (omega arith, marking_none x.n x.last x.p.now c.requires.2)

pub mark_rank-requires : goal.mark_rank-requires
mark_rank-requires c = let h = c.loop-w.invariant.1.steady.held in let x = c.requires in (held_space h x.0, held_small h x.1, c.loop-w-test.true)

pub loop-w-preserved : goal.loop-w-preserved
loop-w-preserved c = let l = c.loop-w-test.true in (omega arith, marking_step c.requires.1 l c.loop-w.invariant.1 c.mark_rank.ensures)

pub returns : goal.returns
returns c = let g = c.loop-w.invariant in marking_all g.0 c.loop-w-test.false g.1
