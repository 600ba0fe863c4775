-- `retracing::predecessors::predecessors` meets its contract.
use Rattle.retracing.proofs.Preceding.{Preceding}
use Rattle.retracing.proofs.predecessors.predecessors.Given as goal

abbrev pub invariant-loop-i : goal.invariant-loop-i
invariant-loop-i l = Preceding l.fn.rows l.w l.i l.r
