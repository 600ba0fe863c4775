-- `blanks::trim` meets its contract.
use Prim.Native.Nat.{◌≤◌}
use lib.Seq.{slice}
use Rattle.lists.specs.Blanks.{Blanks}
use Rattle.blanks.proofs.trim.Given as goal

abbrev pub invariant-loop-last : goal.invariant-loop-last
invariant-loop-last l = (l.from ≤ l.last) × Blanks (slice l.last l.fn.p.to l.s)
