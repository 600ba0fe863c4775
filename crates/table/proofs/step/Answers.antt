-- `table::step` meets its contract.
use Prim.Native.Nat.{◌-◌}
use mathlib.Core.Path.{refl, sym}
use mathlib.Core.Bool.{true, false}
use native.Mathlib.Omega.{arith}
use borrow.Author.Tests.{lt-ltb, le-ltb}
use Rattle.table.proofs.Cells.{hung_then}
use Rattle.table.proofs.step.Goals as goal

pub returns-then-before-depth : goal.returns-then-before-depth
returns-then-before-depth c =
    let x = c.args in
    hung_then x.n x.v x.at x.depth x.before (x.v - 1) true (lt-ltb x.before x.depth c.if-before-depth.true) refl (omega arith) (omega arith) (omega arith)
    c.enter.ensures
    c.put.ensures

pub returns-else-before-depth : goal.returns-else-before-depth
returns-else-before-depth c =
    let x = c.args in let r = c.if-before-depth.false in let e = c.get-u.ensures.0 in let l = c.requires.6 r in
    hung_then x.n x.v x.at x.depth x.before c.get-u.result false (le-ltb x.before x.depth r) (sym e) (omega arith) (omega arith) (omega arith)
    c.enter-else-before-depth.ensures
    c.put-else-before-depth.ensures
