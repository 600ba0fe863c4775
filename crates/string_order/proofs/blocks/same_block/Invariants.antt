-- `string_order::blocks::same_block` meets its contract.
use mathlib.Core.Path.{◌≡◌}
use mathlib.Core.Bool.{true}
use Prim.Native.Nat.{◌≤◌}
use Rattle.string_order.specs.Ordered.{block, Common}
use Rattle.string_order.proofs.blocks.same_block.Given as goal

abbrev pub invariant-loop-k : goal.invariant-loop-k
invariant-loop-k l = (l.k ≤ block) × (l.all ≡ true → Common l.x l.y l.k)
