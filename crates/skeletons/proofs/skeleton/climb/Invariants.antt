-- `skeletons::skeleton::climb` meets its contract.
use Rattle.group_marks.proofs.Raising.{height}
use Rattle.skeletons.proofs.Climbing.{Climbing}
use Rattle.skeletons.proofs.skeleton.climb.Given as goal

abbrev pub invariant-loop-x : goal.invariant-loop-x
invariant-loop-x l = Climbing l.n l.r l.y l.x l.length l.child l.p

abbrev pub decreases-loop-x : goal.decreases-loop-x
decreases-loop-x l = height l.x
