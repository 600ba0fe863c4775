-- `test_passes::both` meets its contract.
use mathlib.Core.Path.{◌≡◌}
use mathlib.Core.Bool.{true}
use Rattle.test_bits.specs.Columns.{held}
use Rattle.test_bits.proofs.Settling.{Settling}
use Rattle.test_passes.proofs.both.Given as goal

abbrev pub invariant-loop-v : goal.invariant-loop-v
invariant-loop-v l = Settling l.n l.k (λ u. (held l.initial.t l.n l.a u ≡ true) × (held l.initial.t l.n l.b u ≡ true)) l.v l.initial.t l.t
