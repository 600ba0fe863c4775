-- `pairs::seeds::seed_edge` meets its contract.
use Rattle.pairs.proofs.Grows.{grown_none}
use Rattle.pairs.proofs.Seeding.{met_nothing}
use Rattle.pairs.proofs.seeds.seed_edge.Goals as goal

pub returns-then-is_empty : goal.returns-then-is_empty
returns-then-is_empty c =
    let x = c.args in
    (grown_none x.n x.p.now, met_nothing x.n x.p.now x.y _ c.snippet_at-by.ensures (c.is_empty.ensures c.if-is_empty.true))
