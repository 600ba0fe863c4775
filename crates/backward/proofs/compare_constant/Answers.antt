-- `backward::compare_constant` meets its contract.
use native.Mathlib.Omega.{arith}
use Rattle.reach.proofs.Clearing.{cleared_work}
use Rattle.retracing.proofs.Linked.{linked_same}
use Rattle.backward.proofs.Hitting.{hits_answered}
use Rattle.backward.proofs.compare_constant.Goals as goal

pub spread_hits-requires : goal.spread_hits-requires
spread_hits-requires c =
    let x = c.requires in let g = c.fill.ensures in
    (cleared_work g x.0, linked_same (λ k l h. g.within.front k (omega arith)) x.1)

pub returns : goal.returns
returns c =
    hits_answered c.fill.ensures c.spread_hits.ensures.1 c.answer_seen.ensures
