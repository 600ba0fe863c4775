-- `table::build` meets its contract.
use Rattle.table.proofs.Building.{Building}
use Rattle.table.proofs.build.Given as goal

abbrev pub invariant-loop-v : goal.invariant-loop-v
invariant-loop-v l = Building l.s l.n l.v l.at l.before l.initial.t l.t
