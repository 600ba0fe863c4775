-- `evaluation::finish` meets its contract.
use Rattle.evaluation.proofs.Selecting.{table_room, finished}
use Rattle.evaluation.proofs.finish.Goals as goal

pub mark-selected-requires : goal.mark-selected-requires
mark-selected-requires c =
    let x = c.args in let (some, few, enough, space) = c.requires in
    (table_room x.n x.scratch.now some enough, space)

pub returns : goal.returns
returns c = finished c.mark-selected.ensures c.needed-words.ensures c.clear.ensures
