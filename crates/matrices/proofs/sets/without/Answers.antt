-- `matrices::sets::without` meets its contract.
use Rattle.matrices.proofs.Members.{bit_without}
use Rattle.matrices.proofs.sets.without.Goals as goal

pub returns : goal.returns
returns c = bit_without c.args.a c.args.b
