-- `label_trees::add` meets its contract.
use native.Mathlib.Omega.{arith}
use Rattle.label_trees.specs.Trees.{Placed}
use Rattle.std.specs.Prelude.{Some}
use Rattle.label_trees.proofs.Keys.{stands_two}
use Rattle.label_trees.proofs.Growing.{free_inside, grown}
use Rattle.label_trees.proofs.add.Goals as goal

pub insert-requires : goal.insert-requires
insert-requires c =
    let a = c.args in
    let f : Placed a.s.now a.t.now a.from (Some c.in-Some.p) = rw c.in-Some.is at c.find.ensures in
    let i = free_inside c.requires.2 a.from c.in-Some.p f in
    (omega arith, c.requires.4, i.0, i.1, omega (arith, stands_two a.s.now a.from a.to c.requires.0))

pub returns : goal.returns
returns c =
    let a = c.args in
    let f : Placed a.s.now a.t.now a.from (Some c.in-Some.p) = rw c.in-Some.is at c.find.ensures in
    grown c.requires.2 a.from c.in-Some.p f (omega arith) c.insert.ensures
