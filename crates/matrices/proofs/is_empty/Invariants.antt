-- `matrices::is_empty` meets its contract.
use Rattle.matrices.proofs.Emptiness.{Covers}
use Rattle.matrices.proofs.is_empty.Given as goal

abbrev pub invariant-loop-row : goal.invariant-loop-row
invariant-loop-row l = Covers l.p l.at l.row-index l.all
