-- `backward::compare_order` meets its contract.
use native.Mathlib.Omega.{arith}
use Rattle.rank_sets.proofs.Steady.{held_at, held_space}
use Rattle.retracing.proofs.Linked.{linked_same}
use Rattle.backward.proofs.Ranking.{bucketed_held, order_answered}
use Rattle.backward.proofs.compare_order.Goals as goal

pub sweep-requires : goal.sweep-requires
sweep-requires c =
    let x = c.requires in let b = c.buckets.ensures in let h = bucketed_held b.within in
    (held_space h x.0, linked_same (λ k l q. held_at h k l (omega arith)) x.2, b.buckets, x.1)

pub returns : goal.returns
returns c =
    let x = c.requires in
    order_answered x.0.few c.buckets.ensures.within c.sweep.ensures c.answer_ordered.ensures
