-- `rank_sets::marks::any_marked` meets its contract.
use Prim.Native.Nat.{ℕ, ◌<◌}
use mathlib.Core.Path.{◌≡◌}
use Rattle.layout.specs.Part.{MARK}
use Rattle.layout.specs.Table.{RANK}
use Rattle.layout.specs.Words.{word}
use Rattle.rank_sets.specs.Ends.{Ended}
use Rattle.rank_sets.proofs.marks.any_marked.Given as goal

abbrev pub invariant-loop-w : goal.invariant-loop-w
invariant-loop-w l = (k : ℕ) → k < l.w → ¬ (Ended l.n l.last l.p k × (word l.p l.n MARK (word l.p l.n RANK k) ≡ 1))
