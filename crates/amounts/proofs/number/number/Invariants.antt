-- `amounts::number::number` meets its contract.
use Rattle.amounts.proofs.Numbering.{Numbering}
use Rattle.amounts.proofs.number.number.Given as goal

abbrev pub invariant-loop-i : goal.invariant-loop-i
invariant-loop-i l = Numbering l.n l.i l.u l.r l.initial.t l.t
