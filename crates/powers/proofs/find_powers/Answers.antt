-- `powers::find_powers` meets its contract.
use native.Mathlib.Omega.{arith}
use Rattle.powers.proofs.Passing.{rising_none, rising_step, rising_all}
use Rattle.powers.proofs.find_powers.Goals as goal

pub loop-k-init : goal.loop-k-init
loop-k-init c = (omega arith, rising_none _ _ _)

pub loop-k-preserved : goal.loop-k-preserved
loop-k-preserved c = (omega arith, rising_step c.loop-k.invariant.1 c.pass.ensures)

pub returns : goal.returns
returns c = rising_all (omega arith) c.loop-k.invariant.1
