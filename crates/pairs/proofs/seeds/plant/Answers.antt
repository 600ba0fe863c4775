-- `pairs::seeds::plant` meets its contract.
use Rattle.pairs.proofs.Seeding.{planted}
use Rattle.pairs.proofs.seeds.plant.Goals as goal

pub returns : goal.returns
returns c = planted c.requires.0 c.requires.1 c.requires.2 c.widen.ensures c.widen-2.ensures
