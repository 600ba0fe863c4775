-- `blanks::trim` meets its contract.
use native.Mathlib.Omega.{arith}
use Rattle.blanks.proofs.Slices.{blanks_none, blanks_before}
use Rattle.blanks.proofs.trim.Goals as goal

pub loop-last-init : goal.loop-last-init
loop-last-init c = let a = c.args in let k = c.skip-from.ensures.ends in (k, blanks_none a.s.now a.p.to)

pub loop-last-preserved : goal.loop-last-preserved
loop-last-preserved c =
    let a = c.args in let l = c.loop-last in
    (omega arith, blanks_before a.s.now l.last a.p.to (omega arith) (omega arith) (omega arith) l.invariant.1 (omega arith))
