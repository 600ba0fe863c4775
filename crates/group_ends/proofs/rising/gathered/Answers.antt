-- `group_ends::rising::gathered` meets its contract.
use Rattle.group_ends.proofs.Ascending.{gathered_found}
use Rattle.group_ends.proofs.rising.gathered.Goals as goal

pub returns : goal.returns
returns c P R t d ready ranks k sides = gathered_found P R t d c.own-here.result c.get-a.result c.get-b.result c.union.result c.union-2.result ready.stage k sides (c.own-here.ensures P R t d ready ranks) c.get-a.ensures.0 c.get-b.ensures.0 c.union.ensures c.union-2.ensures
