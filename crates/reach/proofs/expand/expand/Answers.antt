-- `reach::expand::expand` meets its contract.
use Rattle.reach.proofs.Reaching.{added_after}
use Rattle.reach.proofs.expand.expand.Goals as goal

pub returns : goal.returns
returns c =
    let f = c.followers-f in let x = c.args in
    added_after x.h f.result c.entry_at-e.ensures f.ensures c.spread.ensures
