-- `backward::sweeps::rise` meets its contract.
use Prim.Native.Nat.{◌≤◌}
use Rattle.backward.proofs.Ranking.{Rising}
use Rattle.backward.proofs.sweeps.rise.Given as goal

abbrev pub invariant-loop-r : goal.invariant-loop-r
invariant-loop-r l = (l.r ≤ l.n) × Rising l.m l.n l.r l.len l.initial.p l.p
