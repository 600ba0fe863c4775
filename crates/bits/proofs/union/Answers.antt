use Rattle.bits.proofs.SetLaws.{bit_or_lem}
use Rattle.bits.proofs.union.Goals as goal

-- `bits::union` meets its contract.

pub returns : goal.returns
returns c = bit_or_lem c.args.a c.args.b
