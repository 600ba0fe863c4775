-- `group_marks::marks::mark` meets its contract.
use Rattle.group_marks.proofs.Noting.{marking_put}
use Rattle.group_marks.proofs.marks.mark.Goals as goal

pub returns : goal.returns
returns c = marking_put c.requires.1 c.get-word.ensures.0 c.put.ensures
