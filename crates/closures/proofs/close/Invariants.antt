-- `closures::close` meets its contract.
use Prim.Native.Nat.{◌≤◌}
use Rattle.closures.proofs.Warshall.{Closing}
use Rattle.closures.proofs.close.Given as goal

abbrev pub invariant-loop-k : goal.invariant-loop-k
invariant-loop-k l = (l.k ≤ 16) × Closing l.at l.k l.initial.p l.p
