-- `blanks::skip` meets its contract.
use lib.Seq.{slice}
use Rattle.lists.specs.Blanks.{Blanks}
use Rattle.blanks.proofs.skip.Given as goal

abbrev pub invariant-loop-i : goal.invariant-loop-i
invariant-loop-i l = Blanks (slice l.p.from l.i l.s)
