-- `rank_sets::marks::mark_ranks` meets its contract.
use Prim.Native.Nat.{◌≤◌}
use Rattle.rank_sets.proofs.Marking.{Marking}
use Rattle.rank_sets.proofs.marks.mark_ranks.Given as goal

abbrev pub invariant-loop-w : goal.invariant-loop-w
invariant-loop-w l = (l.w ≤ l.n) × Marking l.n l.last l.w l.initial.p l.p
