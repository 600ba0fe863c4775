-- `numerals::scan_bytes` meets its contract.
use Prim.Native.Nat.{◌+◌}
use Rattle.numerals.proofs.Scans.{Scanning}
use Rattle.numerals.proofs.scan_bytes.Given as goal

abbrev pub invariant-loop-b : goal.invariant-loop-b
invariant-loop-b l = Scanning l.s l.from l.to l.initial.r (l.from + l.b-index) l.r
