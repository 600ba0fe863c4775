-- `pair_rounds::round` meets its contract.
use native.Mathlib.Omega.{arith}
use Rattle.pairs.proofs.Framing.{ready_kept}
use Rattle.pair_rounds.proofs.Passing.{passed_small, both}
use Rattle.pair_rounds.proofs.round.Goals as goal

pub downwards-down-requires : goal.downwards-down-requires
downwards-down-requires c = ready_kept c.upwards-up.ensures.grown.framed c.requires

pub overflow_add-result : goal.overflow_add-result
overflow_add-result c = omega (arith, c.requires.few, passed_small c.upwards-up.ensures, passed_small c.downwards-down.ensures)

pub returns : goal.returns
returns c = both c.upwards-up.ensures c.downwards-down.ensures
