-- `plain::ends::any_hit` meets its contract.
use Prim.Native.Nat.{ℕ, ◌-◌, ◌<◌}
use mathlib.Core.Path.{◌≡◌}
use Rattle.layout.specs.Part.{HIT}
use Rattle.layout.specs.Words.{word}
use Rattle.rank_sets.specs.Ends.{Ended}
use Rattle.plain.proofs.ends.any_hit.Given as goal

abbrev pub invariant-loop-w : goal.invariant-loop-w
invariant-loop-w l = (k : ℕ) → k < l.w → ¬ (Ended l.n l.last l.p k × (word l.p l.n HIT k ≡ 1))
