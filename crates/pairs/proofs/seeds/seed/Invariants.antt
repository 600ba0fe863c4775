-- `pairs::seeds::seed` meets its contract.
use Prim.Native.Nat.{◌<◌}
use Rattle.pairs.specs.Growing.{Grown, Met, Everywhere}
use Rattle.pairs.proofs.seeds.seed.Given as goal

abbrev pub invariant-loop-y : goal.invariant-loop-y
invariant-loop-y l = (0 < l.y) × Grown l.n l.initial.p l.p × Everywhere (Met l.n l.p) l.y
