-- `test_passes::take` meets its contract.
use mathlib.Core.Path.{◌≡◌}
use Rattle.layout.specs.Table.{COLUMNS}
use Rattle.layout.specs.Words.{word}
use Rattle.test_bits.proofs.Settling.{Settling}
use Rattle.test_passes.proofs.take.Given as goal

abbrev pub invariant-loop-v : goal.invariant-loop-v
invariant-loop-v l = Settling l.n l.k (λ u. word l.initial.t l.n COLUMNS u ≡ 1) l.v l.initial.t l.t
