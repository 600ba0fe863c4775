-- `pairs::start::begin` meets its contract.
use Rattle.pairs.proofs.Starting.{begun}
use Rattle.pairs.proofs.start.begin.Goals as goal

pub returns : goal.returns
returns c = begun _ _ _ c.before-w.result c.loop_at.ensures c.pair_at.ensures c.before-w.ensures c.square.ensures
