-- `string_order::blocks::same_blocks` meets its contract.
use native.Mathlib.Omega.{arith}
use Rattle.string_order.proofs.Agreement.{part_length, begins_none, begins_join}
use Rattle.string_order.proofs.blocks.same_blocks.Goals as goal

pub loop-k-init : goal.loop-k-init
loop-k-init c = let a = c.args in begins_none a.x.now a.y.now

pub same_block-requires : goal.same_block-requires
same_block-requires c =
    let a = c.args in let k = c.loop-k.k in
    (part_length k 16 a.x.now (omega arith), part_length k 16 a.y.now (omega arith))

pub loop-k-preserved : goal.loop-k-preserved
loop-k-preserved c =
    let a = c.args in let l = c.loop-k in
    begins_join a.x.now a.y.now l.k 16 l.invariant (omega arith) (c.same_block.ensures c.if-not-same_block.false)
