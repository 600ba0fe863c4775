-- `group_marks::blocks::note` meets its contract.
use Rattle.group_marks.proofs.Noting.{noting_put}
use Rattle.group_marks.proofs.blocks.note.Goals as goal

pub returns : goal.returns
returns c = noting_put c.requires.1 c.get-word.ensures.0 c.put.ensures
