-- `matrices::compose` meets its contract.
use Prim.Native.Nat.{◌≤◌}
use Rattle.matrices.specs.Matrices.{Related, Drawing, Composed}
use Rattle.matrices.proofs.compose.Given as goal

abbrev pub invariant-loop-i : goal.invariant-loop-i
invariant-loop-i l = (l.i ≤ 16) × Drawing (Composed (Related l.initial.p l.a) (Related l.initial.p l.b)) l.c l.i l.initial.p l.p
