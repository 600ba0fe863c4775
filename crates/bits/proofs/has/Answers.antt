use mathlib.Core.Path.{refl}
use Rattle.bits.specs.Sets.{bit}
use Rattle.bits.proofs.has.Goals as goal

-- `bits::has` meets its contract.

pub returns : goal.returns
unfolding bit
returns c = refl
