-- `label_trees::copy` meets its contract.
use Rattle.label_trees.proofs.Copying.{copied_front}
use Rattle.label_trees.proofs.copy.Goals as goal

pub returns : goal.returns
returns c = let a = c.args in rw c.copy_from_slice.ensures.after (copied_front a.from.now a.to.now c.requires.0 c.requires.1)
