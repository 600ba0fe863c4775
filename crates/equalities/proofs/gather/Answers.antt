-- `equalities::gather` meets its contract.
use Rattle.equalities.proofs.Composition.{gathered}
use Rattle.equalities.proofs.gather.Goals as goal

pub returns : goal.returns
returns c =
    let s = c.requires in
    gathered s.1 s.2 c.add_values.ensures c.halve.ensures c.count.ensures
