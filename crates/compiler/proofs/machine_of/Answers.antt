-- `compiler::machine_of` meets its contract.
use Rattle.compiler.proofs.Machines.{two_known, two_machined}
use Rattle.compiler.proofs.machine_of.Goals as goal

pub machine-requires : goal.machine-requires
machine-requires c = two_known _ _ _ c.follow_of-f.ensures c.automaton_of-a.ensures c.places_of.ensures c.requires

pub returns : goal.returns
returns c = two_machined _ _ _ c.follow_of-f.ensures c.automaton_of-a.ensures c.places_of.ensures c.machine.ensures
