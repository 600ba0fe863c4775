-- `rank_sets::ranges::rank_range` meets its contract.
use Prim.Native.Nat.{◌≤◌}
use Rattle.layout.specs.Table.{RANK}
use Rattle.layout.specs.Words.{word}
use Rattle.rank_sets.specs.Ends.{Ended}
use Rattle.rank_sets.specs.Ranges.{WithRank, Ranged}
use Rattle.rank_sets.proofs.ranges.rank_range.Given as goal

abbrev pub invariant-loop-w : goal.invariant-loop-w
invariant-loop-w l = (l.w ≤ l.n) × Ranged l.w (WithRank l.n (word l.p l.n RANK) (Ended l.n l.last l.p)) (word l.p l.n RANK) l.a
