-- `pairs::seeds::plant_ends` meets its contract.
use Rattle.pairs.proofs.Seeding.{seeded}
use Rattle.pairs.proofs.seeds.plant_ends.Goals as goal

pub returns : goal.returns
returns c = seeded c.requires.0 c.requires.1 c.requires.2 c.get-x.ensures.0 c.snippet_at-by.ensures c.loop_at.ensures c.down_at.ensures c.pair_at.ensures c.up_at.ensures c.loop_at-2.ensures c.pair_at-2.ensures c.plant.ensures c.plant-2.ensures
