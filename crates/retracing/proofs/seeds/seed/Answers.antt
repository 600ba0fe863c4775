-- `retracing::seeds::seed` meets its contract.
use Rattle.retracing.proofs.Noting.{column_paired}
use Rattle.retracing.proofs.Seeding.{seeded_one}
use Rattle.retracing.proofs.seeds.seed.Goals as goal

pub returns : goal.returns
returns c =
    let x = c.requires in
    seeded_one x.0 x.3 x.4 (column_paired c.args.bound) c.spread-end.ensures c.note_entries.ensures
