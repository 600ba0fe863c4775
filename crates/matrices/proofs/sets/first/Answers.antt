-- `matrices::sets::first` meets its contract.
use native.Mathlib.Omega.{arith}
use Rattle.matrices.proofs.Members.{lowest}
use Rattle.matrices.proofs.sets.first.Goals as goal

pub overflow_cast-result : goal.overflow_cast-result
overflow_cast-result c = let l = (lowest 16 c.args.w c.requires c.ranges.w.fits).0 in omega arith

pub returns : goal.returns
returns c = lowest 16 c.args.w c.requires c.ranges.w.fits
