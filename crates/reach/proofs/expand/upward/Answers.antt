-- `reach::expand::upward` meets its contract.
use Rattle.reach.proofs.Spreading.{either}
use Rattle.reach.proofs.expand.upward.Goals as goal

pub returns : goal.returns
returns c h =
    let l = c.if_linked-left in let r = c.if_linked-right in
    either l.result r.result c.union.result l.ensures r.ensures c.union.ensures
