-- `pair_rounds::upwards` meets its contract.
use Prim.Native.Nat.{ℕ, ◌≤◌, ◌<◌}
use Rattle.pair_rounds.specs.Rounds.{Passed, Rises}
use Rattle.pair_rounds.proofs.upwards.Given as goal

abbrev pub invariant-loop-y : goal.invariant-loop-y
invariant-loop-y l = Passed ((u : ℕ) → 0 < u → l.y ≤ u → u < l.n → Rises l.n l.initial.p u) l.n l.initial.p l.p l.r
