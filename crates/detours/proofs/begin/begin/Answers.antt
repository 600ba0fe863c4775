-- `detours::begin::begin` meets its contract.
use Rattle.detours.proofs.Beginning.{begun}
use Rattle.detours.proofs.begin.begin.Goals as goal

pub returns : goal.returns
returns c =
    let e = c.loop_at-at.ensures in
    let f = c.get-w.ensures.0 in
    begun _ _ _ e f c.draw.ensures c.close.ensures
