-- `powers::find_powers` meets its contract.
use Prim.Native.Nat.{◌≤◌}
use Rattle.powers.proofs.Passing.{Rising}
use Rattle.powers.proofs.find_powers.Given as goal

abbrev pub invariant-loop-k : goal.invariant-loop-k
invariant-loop-k l = (l.k ≤ l.b) × Rising l.m l.n l.k l.initial.p l.p
