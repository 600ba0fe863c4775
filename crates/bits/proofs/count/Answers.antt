use Rattle.bits.proofs.SetLaws.{ones_size}
use Rattle.bits.proofs.count.Goals as goal

-- `bits::count` meets its contract.

pub returns : goal.returns
returns c = ones_size 16 c.args.w c.ranges.w.fits
