-- `automaton::automaton::ends` meets its contract.
use Rattle.automaton.proofs.Compared.{ended}
use Rattle.automaton.proofs.automaton.ends.Goals as goal

pub returns : goal.returns
returns c = λ P b h. ended P b _ _ _ c.insert-w.ensures h _ _ c.given.ensures c.union.ensures
