-- `numerals::scan_bytes` meets its contract.
use native.Mathlib.Omega.{arith}
use Rattle.numerals.proofs.Scans.{scanning_on, scanning_ends}
use Rattle.numerals.proofs.scan_bytes.Goals as goal

pub returns-in_err-r-2 : goal.returns-in_err-r-2
returns-in_err-r-2 c =
    let a = c.args in let l = c.loop-b in
    rw (c.from_residual-in_err-r-2.ensures, c.in_ok-r.was) (scanning_ends a.s.now a.from a.to c.in_ok-r.r l.b-index l.r (omega arith) c.requires.1 l.invariant c.in_err-r-2.ensures)

pub loop-b-preserved : goal.loop-b-preserved
loop-b-preserved c =
    let a = c.args in let l = c.loop-b in
    scanning_on a.s.now a.from a.to c.in_ok-r.r l.b-index l.r c.in_ok-r-2.r (omega arith) c.requires.1 l.invariant c.in_ok-r-2.ensures
