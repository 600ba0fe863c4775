-- `label_trees::same_line` meets its contract.
use Rattle.label_trees.proofs.Keys.{line_same}
use Rattle.label_trees.proofs.same_line.Goals as goal

pub returns : goal.returns
returns c = let a = c.args in line_same a.s.now a.from a.to c.requires.0 a.o c.eq.result c.requires.1 c.eq.ensures
