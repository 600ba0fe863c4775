-- `matrices::before` meets its contract.
use Prim.Native.Nat.{◌≤◌}
use Rattle.matrices.proofs.Preceding.{Preceding}
use Rattle.matrices.proofs.before.Given as goal

abbrev pub invariant-loop-i : goal.invariant-loop-i
invariant-loop-i l = (l.i ≤ 16) × Preceding l.p l.at l.w l.i l.r
