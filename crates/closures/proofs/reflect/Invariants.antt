-- `closures::reflect` meets its contract.
use Prim.Native.Nat.{◌≤◌}
use Rattle.matrices.specs.Matrices.{Related, Drawing}
use Rattle.closures.specs.Closures.{Reflexive}
use Rattle.closures.proofs.reflect.Given as goal

abbrev pub invariant-loop-i : goal.invariant-loop-i
invariant-loop-i l = (l.i ≤ 16) × Drawing (Reflexive (Related l.initial.p l.at)) l.at l.i l.initial.p l.p
