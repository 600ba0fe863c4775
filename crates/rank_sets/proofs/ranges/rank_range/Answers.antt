-- `rank_sets::ranges::rank_range` meets its contract.
use mathlib.Core.Path.{◌≡◌, subst}
use native.Mathlib.Omega.{arith}
use Rattle.layout.specs.Table.{RANK}
use Rattle.layout.specs.Words.{word}
use Rattle.rank_sets.specs.Ends.{Ended}
use Rattle.rank_sets.specs.Ranges.{WithRank, Ranged}
use Rattle.rank_sets.proofs.Ranged.{ranged_none}
use Rattle.rank_sets.proofs.ranges.rank_range.Goals as goal

pub loop-w-init : goal.loop-w-init
loop-w-init c = (omega arith, ranged_none _ _)

pub returns : goal.returns
returns c =
    let x = c.args in let l = c.loop-w.invariant.0 in let r = c.loop-w-test.false in
    let whole : c.loop-w.w ≡ x.n = omega arith in
    subst (λ k. Ranged k (WithRank x.n (word x.p.now x.n RANK) (Ended x.n x.last x.p.now)) (word x.p.now x.n RANK) c.loop-w.a) whole c.loop-w.invariant.1
