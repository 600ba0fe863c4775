-- `loops::rounds::downwards` meets its contract.
use Prim.Native.Nat.{◌+◌, ◌<◌}
use native.Mathlib.Omega.{arith}
use Rattle.loops.specs.Growing.{Falls}
use Rattle.loops.proofs.Grows.{ready_kept, grown_none}
use Rattle.loops.proofs.Passing.{sweep_more, down_cover, total_le}
use Rattle.loops.proofs.rounds.downwards.Goals as goal

pub loop-v-init : goal.loop-v-init
loop-v-init c = (omega arith, omega arith, record { grown = grown_none _ _ _; settled = λ e u (h, l). absurd (let f : ⊥ = omega arith in f) })

pub descend-r-requires : goal.descend-r-requires
descend-r-requires c =
    let g = c.loop-v.invariant.2.grown in
    (ready_kept g.frame c.requires.0, omega arith, omega arith)

pub overflow_add-r : goal.overflow_add-r
overflow_add-r c =
    let t = total_le c.args.n c.descend-r.new.p in
    omega (arith, c.loop-v.invariant.2.grown.count, c.descend-r.ensures.grown.count)

pub loop-v-preserved : goal.loop-v-preserved
loop-v-preserved c =
    let a = c.args in
    let l = c.loop-v in (
      omega arith,
      omega arith,
      sweep_more (Falls a.m a.n) l.v (λ u. (0 < u) × (u < l.v)) (λ u. (0 < u) × (u < l.v + 1)) (λ u t. down_cover t) l.invariant.2 c.descend-r.ensures,
    )

pub returns : goal.returns
returns c = let w = c.loop-v.invariant.2 in record { grown = w.grown; settled = λ e u h l. w.settled e u (omega arith) }
