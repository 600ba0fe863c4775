-- `backward::order::range_at` meets its contract.
use Prim.Native.Nat.{ℕ}
use mathlib.Core.Path.{ap₂}
use Rattle.rank_sets.specs.declared.ranges.Range.{Range}
use Rattle.backward.proofs.order.range_at.Goals as goal

pub returns : goal.returns
returns c =
    let a = c.get.ensures in let r : ℕ → ℕ → Range = λ x y. record { least = x; above = y } in
    (ap₂ r a.0 c.get-2.ensures.0, a.1)
