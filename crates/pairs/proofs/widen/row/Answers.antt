-- `pairs::widen::row` meets its contract.
use Rattle.pairs.proofs.Widening.{over_row}
use Rattle.pairs.proofs.widen.row.Goals as goal

pub returns : goal.returns
returns c = over_row _ _ _ _ _ _ c.partners-there.ensures c.before-2.ensures
