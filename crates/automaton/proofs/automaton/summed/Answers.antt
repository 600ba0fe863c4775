-- `automaton::automaton::summed` meets its contract.
use Rattle.automaton.proofs.Compared.{sums}
use Rattle.automaton.proofs.automaton.summed.Goals as goal

pub returns : goal.returns
returns c = sums c.ends-u.ensures c.ends-v.ensures c.union.ensures
