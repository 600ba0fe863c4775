-- `marking::mark` meets its contract.
use Rattle.marking.proofs.Marking.{Marking}
use Rattle.marking.proofs.mark.Given as goal

-- the marks that are lent to the loop are the first n
abbrev pub invariant-loop-v : goal.invariant-loop-v
invariant-loop-v l = Marking l.n l.v l.count l.t l.mark-items
