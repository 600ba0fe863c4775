-- `matrices::sets::touches` meets its contract.
use Rattle.matrices.proofs.Members.{common}
use Rattle.matrices.proofs.sets.touches.Goals as goal

pub returns : goal.returns
returns c = common c.args.a c.args.b c.ranges.a.fits
