-- `amounts::rank_amounts` meets its contract.
use Rattle.amounts.proofs.Weighed.{weighed_within, weighed}
use Rattle.amounts.proofs.rank_amounts.Goals as goal

pub returns : goal.returns
returns c =
    (weighed_within c.note_keys.ensures c.sort.ensures c.number.ensures c.strike_out.ensures, weighed c.note_keys.ensures c.sort.ensures c.number.ensures c.strike_out.ensures c.requires.tabled)
