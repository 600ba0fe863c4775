-- `string_order::agree_from` meets its contract.
use native.Mathlib.Omega.{arith}
use Rattle.string_order.proofs.Agreement.{begins_more}
use Rattle.string_order.proofs.agree_from.Goals as goal

pub loop-k-preserved : goal.loop-k-preserved
loop-k-preserved c =
    let a = c.args in let l = c.loop-k in
    begins_more a.x.now a.y.now l.k l.invariant (omega arith) (omega arith)
