-- `pairs::widen::partners` meets its contract.
use mathlib.Core.Bool.{true, false}
use Rattle.pairs.proofs.Widening.{partners_of}
use Rattle.pairs.proofs.widen.partners.Goals as goal

pub returns-then-back : goal.returns-then-back
returns-then-back c = partners_of true _ _ _ _ c.if-back.true c.before-then-back.ensures

pub returns : goal.returns
returns c = partners_of false _ _ _ _ c.if-back.false c.image.ensures
