-- `reach::list::enter` meets its contract.
use native.Mathlib.Omega.{arith}
use lib.ListN.{length-set}
use Rattle.layout.specs.Part.{SEEN, NODES, POSITIONS}
use Rattle.layout.specs.Words.{cell}
use Rattle.layout.proofs.Cells.{wrote_one, wrote_then}
use Rattle.reach.proofs.list.enter.Goals as goal

pub returns : goal.returns
returns c =
    let x = c.args in let q = c.requires.0.room in let l = c.requires.1 in let k = c.requires.2 in
    wrote_then (wrote_then (wrote_one x.p.now (cell x.n SEEN x.u) x.seen (omega arith)) (omega arith) (wrote_one _ (cell x.n NODES x.len) x.u (simp length-set (omega arith)))) (omega arith)
    (wrote_one _ (cell x.n POSITIONS x.len) x.new (simp length-set (omega arith)))
