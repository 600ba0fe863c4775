-- `loops::rounds::downwards` meets its contract.
use Prim.Native.Nat.{ℕ, ◌≤◌, ◌<◌}
use Rattle.loops.specs.Growing.{Passed, Falls}
use Rattle.loops.proofs.rounds.downwards.Given as goal

abbrev pub invariant-loop-v : goal.invariant-loop-v
invariant-loop-v l = (0 < l.v) × (l.v ≤ l.n) × Passed ((u : ℕ) → (0 < u) × (u < l.v) → Falls l.m l.n l.initial.p u) l.m l.n l.initial.p l.p l.r
