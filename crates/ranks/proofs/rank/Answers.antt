-- `ranks::rank` meets its contract.
use Rattle.value_notes.proofs.Annotated.{annotated}
use Rattle.ranks.proofs.Ranked.{written}
use Rattle.ranks.proofs.rank.Goals as goal

pub sort-requires : goal.sort-requires
sort-requires c = annotated c.mark_all.ensures.0

pub returns : goal.returns
returns c =
    written c.requires c.mark_all.ensures.1 c.sort.ensures c.number.ensures
