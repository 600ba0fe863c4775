use Prim.Native.Nat.{◌≤◌}
use Rattle.bits.proofs.SquareLaws.{Joining}
use Rattle.bits.proofs.square.joined.Given as goal

abbrev pub invariant-loop-i : goal.invariant-loop-i
invariant-loop-i l = (l.i ≤ 16) × Joining l.a l.b l.fn.f l.i l.row-items
