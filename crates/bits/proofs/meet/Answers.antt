use Rattle.bits.proofs.SetLaws.{bit_and_lem}
use Rattle.bits.proofs.meet.Goals as goal

-- `bits::meet` meets its contract.

pub returns : goal.returns
returns c = bit_and_lem c.args.a c.args.b
