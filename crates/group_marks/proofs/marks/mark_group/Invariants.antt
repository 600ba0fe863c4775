-- `group_marks::marks::mark_group` meets its contract.
use Prim.Native.Nat.{◌-◌}
use Rattle.group_marks.proofs.Grouping.{Grouping}
use Rattle.group_marks.proofs.marks.mark_group.Given as goal

abbrev pub invariant-loop-w : goal.invariant-loop-w
invariant-loop-w l = Grouping l.n l.r l.w l.initial.p l.p

abbrev pub decreases-loop-w : goal.decreases-loop-w
decreases-loop-w l = l.n - l.w
