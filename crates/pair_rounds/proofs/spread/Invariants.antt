-- `pair_rounds::spread` meets its contract.
use Prim.Native.Nat.{◌+◌, ◌*◌, ◌-◌}
use mathlib.Core.Path.{◌≡◌}
use Rattle.pairs.specs.Growing.{Grown}
use Rattle.pair_rounds.specs.Rounds.{total, Still}
use Rattle.pair_rounds.proofs.spread.Given as goal

abbrev pub invariant-loop-r : goal.invariant-loop-r
invariant-loop-r l = Grown l.n l.initial.p l.p × (l.r ≡ 0 → Still l.n l.p)

abbrev pub decreases-loop-r : goal.decreases-loop-r
decreases-loop-r l = 256 * l.n - total l.n l.p + l.r
