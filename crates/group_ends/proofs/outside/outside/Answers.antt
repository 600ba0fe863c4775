-- `group_ends::outside::outside` meets its contract.
use Rattle.group_ends.proofs.Around.{outside_found}
use Rattle.group_ends.proofs.outside.outside.Goals as goal

pub returns : goal.returns
returns c = outside_found c.get-up.result c.own-here.result c.beside-over.result c.union.result c.union-2.result c.requires.0 c.get-up.ensures.0 c.own-here.ensures c.beside-over.ensures c.union.ensures c.union-2.ensures
