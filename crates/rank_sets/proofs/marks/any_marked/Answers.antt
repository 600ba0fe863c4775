-- `rank_sets::marks::any_marked` meets its contract.
use borrow.Author.Count.{below_none, below_more}
use native.Mathlib.Omega.{arith}
use Rattle.rank_sets.proofs.Telling.{tells_yes, tells_no, denied}
use Rattle.rank_sets.proofs.marks.any_marked.Goals as goal

pub loop-w-init : goal.loop-w-init
loop-w-init c = below_none _

pub marked_at-requires : goal.marked_at-requires
marked_at-requires c = let r = c.requires in (r.0, r.1, c.loop-w-test.true)

pub returns-then-marked_at : goal.returns-then-marked_at
returns-then-marked_at c = let e = c.marked_at.ensures.0 c.if-marked_at.true in tells_yes (c.loop-w.w, c.loop-w-test.true, e.0, e.1)

pub loop-w-preserved : goal.loop-w-preserved
loop-w-preserved c = below_more _ _ c.loop-w.invariant (denied c.marked_at.ensures c.if-marked_at.false)

pub returns : goal.returns
returns c = tells_no (λ h. let l = h.1 in let r = c.loop-w-test.false in c.loop-w.invariant h.0 (omega arith) (h.2, h.3))
