-- `loops::rounds::upwards` meets its contract.
use Prim.Native.Nat.{ℕ, ◌≤◌, ◌<◌}
use Rattle.loops.specs.Growing.{Passed, Rises}
use Rattle.loops.proofs.rounds.upwards.Given as goal

abbrev pub invariant-loop-v : goal.invariant-loop-v
invariant-loop-v l = (0 < l.v) × (l.v ≤ l.n) × Passed ((u : ℕ) → (l.v ≤ u) × (u < l.n) → Rises l.m l.n l.initial.p u) l.m l.n l.initial.p l.p l.r
