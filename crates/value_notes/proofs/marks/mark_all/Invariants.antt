-- `value_notes::marks::mark_all` meets its contract.
use Rattle.value_notes.proofs.Marking.{Filling}
use Rattle.value_notes.proofs.marks.mark_all.Given as goal

abbrev pub invariant-loop-v : goal.invariant-loop-v
invariant-loop-v l = Filling l.s l.n l.v l.next l.initial.t l.t
