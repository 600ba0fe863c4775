-- `pair_rounds::fall` meets its contract.
use Rattle.pair_rounds.proofs.Passing.{fallen}
use Rattle.pair_rounds.proofs.fall.Goals as goal

pub returns : goal.returns
returns c = fallen c.requires.0 c.requires.1 c.requires.2 c.get-x.ensures.0 c.pair_at.ensures c.pair_at-2.ensures c.up_at-edge.ensures c.widen.ensures
