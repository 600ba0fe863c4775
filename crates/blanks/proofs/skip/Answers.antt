-- `blanks::skip` meets its contract.
use Rattle.blanks.proofs.Slices.{blanks_none}
use Rattle.blanks.proofs.skip.Goals as goal

pub loop-i-init : goal.loop-i-init
loop-i-init c = let a = c.args in blanks_none a.s.now a.p.from
