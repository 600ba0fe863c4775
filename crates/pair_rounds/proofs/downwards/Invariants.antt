-- `pair_rounds::downwards` meets its contract.
use Prim.Native.Nat.{◌<◌}
use Rattle.pair_rounds.specs.Rounds.{Passed, Falls}
use Rattle.pairs.specs.Growing.{Everywhere}
use Rattle.pair_rounds.proofs.downwards.Given as goal

abbrev pub invariant-loop-y : goal.invariant-loop-y
invariant-loop-y l = (0 < l.y) × Passed (Everywhere (Falls l.n l.initial.p) l.y) l.n l.initial.p l.p l.r
