-- `edge_snippets::yields::add_lower` meets its contract.
use Prim.Native.Nat.{◌+◌}
use native.Mathlib.Omega.{arith}
use Rattle.edge_snippets.proofs.Lengths.{stretch_lower}
use Rattle.edge_snippets.proofs.Yielding.{low_exponent, part_le, part_fits, lower_stretch, lower_gained}
use mathlib.Core.Path.{refl}
use Rattle.edge_snippets.proofs.yields.add_lower.Goals as goal

pub two_to-power-requires : goal.two_to-power-requires
two_to-power-requires c = low_exponent c.requires.0 c.requires.1 refl

pub above-w-requires : goal.above-w-requires
above-w-requires c = stretch_lower c.requires.0 _ (part_le c.requires.0 c.requires.1 c.two_to-power.ensures)

pub lower-set-requires : goal.lower-set-requires
lower-set-requires c = lower_stretch c.requires.0 c.requires.1 c.two_to-power.ensures c.above-w.ensures

pub block_at-at-requires : goal.block_at-at-requires
block_at-at-requires c = let f = part_fits c.requires.0 c.requires.1 c.two_to-power.ensures c.requires.0.node in (f.node, f.few, f.low)

pub overflow_add-at : goal.overflow_add-at
overflow_add-at c = let f = part_fits c.requires.0 c.requires.1 c.two_to-power.ensures c.requires.0.node in let r = f.room in omega (arith, c.block_at-at.ensures)

pub add_rows-requires : goal.add_rows-requires
add_rows-requires c = let f = part_fits c.requires.0 c.requires.1 c.two_to-power.ensures c.requires.0.node in let r = f.room in omega (arith, c.block_at-at.ensures)

pub returns : goal.returns
returns c = lower_gained c.requires.0 c.requires.1 c.two_to-power.ensures c.above-w.ensures c.lower-set.result (c.block_at-at.result + 32) c.lower-set.ensures (omega (arith, c.block_at-at.ensures)) c.add_rows.ensures
