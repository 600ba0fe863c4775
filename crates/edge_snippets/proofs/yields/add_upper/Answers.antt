-- `edge_snippets::yields::add_upper` meets its contract.
use Prim.Native.Nat.{◌+◌}
use native.Mathlib.Omega.{arith}
use Rattle.edge_snippets.proofs.Lengths.{stretch_lower}
use Rattle.edge_snippets.proofs.Yielding.{low_exponent, part_fits, upper_node, upper_gained}
use mathlib.Core.Path.{refl}
use Rattle.edge_snippets.proofs.yields.add_upper.Goals as goal

pub two_to-requires : goal.two_to-requires
two_to-requires c = low_exponent c.requires.0 c.requires.1 refl

pub above-u-requires : goal.above-u-requires
above-u-requires c = stretch_lower c.requires.0 _ (omega arith)

pub lift-set-requires : goal.lift-set-requires
lift-set-requires c = stretch_lower c.requires.0 _ (omega arith)

pub block_at-at-requires : goal.block_at-at-requires
block_at-at-requires c = let f = part_fits c.requires.0 c.requires.1 c.two_to.ensures (upper_node c.requires.0 c.requires.1 c.two_to.ensures c.above-u.ensures) in (f.node, f.few, f.low)

pub overflow_add-at : goal.overflow_add-at
overflow_add-at c = let f = part_fits c.requires.0 c.requires.1 c.two_to.ensures (upper_node c.requires.0 c.requires.1 c.two_to.ensures c.above-u.ensures) in let r = f.room in omega (arith, c.block_at-at.ensures)

pub add_rows-requires : goal.add_rows-requires
add_rows-requires c = let f = part_fits c.requires.0 c.requires.1 c.two_to.ensures (upper_node c.requires.0 c.requires.1 c.two_to.ensures c.above-u.ensures) in let r = f.room in omega (arith, c.block_at-at.ensures)

pub returns : goal.returns
returns c = upper_gained c.requires.0 c.requires.1 c.two_to.ensures c.above-u.ensures c.lift-set.result (c.block_at-at.result + 32) c.lift-set.ensures (omega (arith, c.block_at-at.ensures)) c.add_rows.ensures
