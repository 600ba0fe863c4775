-- `powers::passes::doubled` meets its contract.
use native.Mathlib.Omega.{arith}
use Rattle.powers.proofs.Passing.{doubled_none, doubled_twice}
use Rattle.powers.proofs.passes.doubled.Goals as goal

pub returns-then-n-h : goal.returns-then-n-h
returns-then-n-h c =
    doubled_none c.args.k c.requires c.upper-h.ensures.0 c.if-n-h.true c.none.ensures

pub returns-else-n-h : goal.returns-else-n-h
returns-else-n-h c =
    doubled_twice c.args.k c.requires c.upper-h.ensures.0 (let o = c.if-n-h.false in omega arith) c.twice.ensures
