-- `group_order::measuring::measure` meets its contract.
use Rattle.group_order.specs.Steps.{Sized}
use Rattle.group_order.proofs.measuring.measure.Given as goal

abbrev pub invariant-loop-v : goal.invariant-loop-v
invariant-loop-v l = Sized l.n l.v l.initial.p l.p
