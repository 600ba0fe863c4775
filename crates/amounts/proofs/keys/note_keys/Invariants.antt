-- `amounts::keys::note_keys` meets its contract.
use Rattle.amounts.specs.Steps.{Keyed}
use Rattle.amounts.proofs.keys.note_keys.Given as goal

abbrev pub invariant-loop-v : goal.invariant-loop-v
invariant-loop-v l = Keyed l.s l.n l.v l.initial.t l.t
