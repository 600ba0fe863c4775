-- `powers::passes::first_power` meets its contract.
use native.Mathlib.Omega.{arith}
use Rattle.powers.proofs.Passing.{found_left, found_right, found_root}
use Rattle.powers.proofs.passes.first_power.Goals as goal

pub returns-then-n-x : goal.returns-then-n-x
returns-then-n-x c =
    found_root c.requires.node c.if-n-x.true c.parent-x.ensures.0 c.none.ensures

pub returns-then-left-y : goal.returns-then-left-y
returns-then-left-y c =
    found_left c.requires.node (let o = c.if-n-x.false in omega arith) c.parent-x.ensures.0 c.left.ensures.0 c.if-left-y.true c.edge.ensures

pub returns-else-left-y : goal.returns-else-left-y
returns-else-left-y c =
    found_right c.requires.node (let o = c.if-n-x.false in omega arith) c.parent-x.ensures.0 c.left.ensures.0 c.if-left-y.false c.edge-else-left-y.ensures
