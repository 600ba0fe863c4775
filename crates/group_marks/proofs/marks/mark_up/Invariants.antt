-- `group_marks::marks::mark_up` meets its contract.
use Rattle.group_marks.proofs.Raising.{Raising, height}
use Rattle.group_marks.proofs.marks.mark_up.Given as goal

abbrev pub invariant-loop-v : goal.invariant-loop-v
invariant-loop-v l = Raising l.n l.w l.v l.initial.p l.p

abbrev pub decreases-loop-v : goal.decreases-loop-v
decreases-loop-v l = height l.v
