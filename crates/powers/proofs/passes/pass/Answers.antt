-- `powers::passes::pass` meets its contract.
use Prim.Native.Nat.{◌+◌}
use native.Mathlib.Omega.{arith}
use Rattle.powers.proofs.Places.{fits_of}
use Rattle.powers.proofs.Passing.{passed_none, passed_step, passed_to}
use Rattle.powers.proofs.passes.pass.Goals as goal

pub loop-y-init : goal.loop-y-init
loop-y-init c = (omega arith, passed_none _ _ _ _)

pub power-requires : goal.power-requires
power-requires c =
    let l = c.loop-y.invariant.1.frame.long in let room = c.requires.room in
    fits_of {b = c.args.k + 1} c.loop-y.p (omega arith) (omega arith) c.requires.few c.requires.low (omega arith)

pub loop-y-preserved : goal.loop-y-preserved
loop-y-preserved c = (omega arith, passed_step c.loop-y.invariant.1 c.power.ensures)

pub returns : goal.returns
returns c = passed_to (omega arith) c.loop-y.invariant.1
