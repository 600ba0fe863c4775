-- `levels::enter` meets its contract.
use native.Mathlib.Omega.{arith}
use Rattle.layout.specs.Groups.{LEVEL}
use Rattle.levels.proofs.Levelling.{known}
use Rattle.levels.proofs.enter.Goals as goal

pub put-requires : goal.put-requires
put-requires c =
    let a = c.args in let x = c.requires in let h = x.3 in
    let e = known a.p.now a.n LEVEL c.get-l.ensures.0 c.parent-u.ensures.0 in
    (omega arith, x.1, x.0, omega arith)

pub returns : goal.returns
returns c = let a = c.args in let e = known a.p.now a.n LEVEL c.get-l.ensures.0 c.parent-u.ensures.0 in (omega arith, c.put.ensures)
