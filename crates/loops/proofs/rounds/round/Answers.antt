-- `loops::rounds::round` meets its contract.
use native.Mathlib.Omega.{arith}
use Rattle.loops.proofs.Grows.{ready_kept}
use Rattle.loops.proofs.Passing.{both_ways, total_le}
use Rattle.loops.proofs.rounds.round.Goals as goal

pub downwards-down-requires : goal.downwards-down-requires
downwards-down-requires c =
    let g = c.upwards-up.ensures.grown in
    (ready_kept g.frame c.requires.0, c.requires.1)

pub overflow_add-result : goal.overflow_add-result
overflow_add-result c =
    let t = total_le c.args.n c.downwards-down.new.p in
    omega (arith, c.upwards-up.ensures.grown.count, c.downwards-down.ensures.grown.count)

pub returns : goal.returns
returns c = both_ways c.upwards-up.ensures c.downwards-down.ensures
