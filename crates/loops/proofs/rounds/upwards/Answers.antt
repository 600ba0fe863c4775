-- `loops::rounds::upwards` meets its contract.
use Prim.Native.Nat.{◌-◌, ◌≤◌, ◌<◌}
use native.Mathlib.Omega.{arith}
use Rattle.loops.specs.Growing.{Rises}
use Rattle.loops.proofs.Passing.{sweep_more, up_cover, total_le}
use Rattle.loops.proofs.rounds.upwards.Goals as goal

pub overflow_add-r : goal.overflow_add-r
overflow_add-r c =
    let t = total_le c.args.n c.climb-r.new.p in
    omega (arith, c.loop-v.invariant.2.grown.count, c.climb-r.ensures.grown.count)

pub loop-v-preserved : goal.loop-v-preserved
loop-v-preserved c =
    let a = c.args in
    let l = c.loop-v in
    let few : 0 < l.v = omega arith in (
      omega arith,
      omega arith,
      sweep_more (Rises a.m a.n) (l.v - 1) (λ u. (l.v ≤ u) × (u < a.n)) (λ u. (l.v - 1 ≤ u) × (u < a.n)) (λ u t. up_cover few t) l.invariant.2 c.climb-r.ensures,
    )

pub returns : goal.returns
returns c = let w = c.loop-v.invariant.2 in record { grown = w.grown; settled = λ e u h l. w.settled e u (omega arith) }
