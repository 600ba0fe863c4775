-- `string_order::blocks::same_block` meets its contract.
use mathlib.Core.Path.{sym, ◌∙◌}
use mathlib.Core.Bool.{true≢false}
use native.Mathlib.Omega.{arith}
use Rattle.string_order.proofs.Agreement.{common_none, common_more}
use Rattle.string_order.proofs.blocks.same_block.Goals as goal
use Rattle.string_order.proofs.blocks.same_block.Goals.{then-x-k, else-x-k}

pub loop-k-init : goal.loop-k-init
loop-k-init c = let a = c.args in (omega arith, λ e. common_none a.x.now a.y.now)

pub loop-k-preserved : goal.loop-k-preserved
loop-k-preserved c =
    let a = c.args in let l = c.loop-k in (
      omega arith,
      elim c.if-x-k.branch [
        | then-x-k w ↦ λ e. absurd (true≢false (sym e ∙ w.all-is))
        | else-x-k w ↦ λ e. common_more a.x.now a.y.now l.k (l.invariant.1 (sym w.all-is ∙ e)) w.if-x-k.false
      ],
    )

-- By hand, and not left to the search: where a byte of the block is not read, this says which.
pub returns : goal.returns
returns c e m h = c.loop-k.invariant.1 e m (omega arith)
