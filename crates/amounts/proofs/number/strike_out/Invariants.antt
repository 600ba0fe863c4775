-- `amounts::number::strike_out` meets its contract.
use Rattle.amounts.specs.Steps.{Struck}
use Rattle.amounts.proofs.number.strike_out.Given as goal

abbrev pub invariant-loop-v : goal.invariant-loop-v
invariant-loop-v l = Struck l.n l.v l.initial.t l.t
