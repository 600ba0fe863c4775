-- `constants::nearest` meets its contract.
use native.Mathlib.Omega.{arith}
use Rattle.constants.proofs.Nearing.{nearing_none, nearing_all}
use Rattle.constants.proofs.nearest.Goals as goal

pub loop-v-init : goal.loop-v-init
loop-v-init c = nearing_none _ _ _

pub returns : goal.returns
returns c = nearing_all c.loop-v.invariant (let l = c.loop-v-test.false in omega arith)
