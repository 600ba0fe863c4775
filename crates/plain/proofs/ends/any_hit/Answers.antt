-- `plain::ends::any_hit` meets its contract.
use borrow.Author.Count.{below_none, below_more}
use native.Mathlib.Omega.{arith}
use Rattle.rank_sets.proofs.Telling.{tells_yes, tells_no, denied}
use Rattle.plain.proofs.ends.any_hit.Goals as goal

pub loop-w-init : goal.loop-w-init
loop-w-init c = below_none _

pub hit_at-requires : goal.hit_at-requires
hit_at-requires c = (c.loop-w-test.true, c.requires)

pub returns-then-hit_at : goal.returns-then-hit_at
returns-then-hit_at c = let e = c.hit_at.ensures.0 c.if-hit_at.true in tells_yes (c.loop-w.w, c.loop-w-test.true, e.0, e.1)

pub loop-w-preserved : goal.loop-w-preserved
loop-w-preserved c = below_more _ _ c.loop-w.invariant (denied c.hit_at.ensures c.if-hit_at.false)

pub returns : goal.returns
returns c = tells_no (λ h. let l = h.1 in let r = c.loop-w-test.false in c.loop-w.invariant h.0 (omega arith) (h.2, h.3))
