-- `staging::relations::fits` meets its contract.
use Rattle.xpath.specs.Syntax.{eq, ne, lt, le, gt, ge}
use Rattle.staging.proofs.Signs.{fits_by}
use Rattle.staging.proofs.relations.fits.Goals as goal

pub returns-in-Equal : goal.returns-in-Equal
returns-in-Equal c = fits_by eq c.args.c c.in-Equal.is c.is_eq.ensures

pub returns-in-Unequal : goal.returns-in-Unequal
returns-in-Unequal c = fits_by ne c.args.c c.in-Unequal.is c.is_ne.ensures

pub returns-in-Less : goal.returns-in-Less
returns-in-Less c = fits_by lt c.args.c c.in-Less.is c.is_lt.ensures

pub returns-in-LessEqual : goal.returns-in-LessEqual
returns-in-LessEqual c = fits_by le c.args.c c.in-LessEqual.is c.is_le.ensures

pub returns-in-Greater : goal.returns-in-Greater
returns-in-Greater c = fits_by gt c.args.c c.in-Greater.is c.is_gt.ensures

pub returns-in-GreaterEqual : goal.returns-in-GreaterEqual
returns-in-GreaterEqual c = fits_by ge c.args.c c.in-GreaterEqual.is c.is_ge.ensures
