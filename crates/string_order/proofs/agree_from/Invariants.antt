-- `string_order::agree_from` meets its contract.
use Rattle.string_order.specs.Ordered.{Begins}
use Rattle.string_order.proofs.agree_from.Given as goal

abbrev pub invariant-loop-k : goal.invariant-loop-k
invariant-loop-k l = Begins l.x l.y l.k
