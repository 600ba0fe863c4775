-- `label_trees::insert` meets its contract.
use native.Mathlib.Omega.{arith}
use Rattle.label_trees.proofs.Inserting.{inserted}
use Rattle.label_trees.proofs.insert.Goals as goal

pub returns : goal.returns
returns c =
    let a = c.args in
    inserted a.t.now a.p a.o c.requires.0 c.requires.2 c.requires.3 (omega arith) (omega arith)
