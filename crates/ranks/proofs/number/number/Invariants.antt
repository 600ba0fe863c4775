-- `ranks::number::number` meets its contract.
use Rattle.ranks.proofs.Numbering.{Numbering}
use Rattle.ranks.proofs.number.number.Given as goal

abbrev pub invariant-loop-i : goal.invariant-loop-i
invariant-loop-i l = Numbering l.s l.n l.i l.u l.r l.initial.t l.t
