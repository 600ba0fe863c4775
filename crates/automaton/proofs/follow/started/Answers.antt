-- `automaton::follow::started` meets its contract.
use Rattle.automaton.proofs.Compared.{started}
use Rattle.automaton.proofs.follow.started.Goals as goal

pub returns : goal.returns
returns c = λ P b h. started P b _ _ _ c.insert-w.ensures h _ _ c.joined.ensures
