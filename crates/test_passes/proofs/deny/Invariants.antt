-- `test_passes::deny` meets its contract.
use mathlib.Core.Path.{◌≡◌}
use mathlib.Core.Bool.{true}
use Rattle.test_bits.specs.Columns.{held}
use Rattle.test_bits.proofs.Settling.{Settling}
use Rattle.test_passes.proofs.deny.Given as goal

abbrev pub invariant-loop-v : goal.invariant-loop-v
invariant-loop-v l = Settling l.n l.k (λ u. ¬ (held l.initial.t l.n l.a u ≡ true)) l.v l.initial.t l.t
