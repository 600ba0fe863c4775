-- `retracing::seeds::seed_rank` meets its contract.
use native.Mathlib.Omega.{arith}
use Rattle.retracing.proofs.Noting.{column_paired}
use Rattle.retracing.proofs.Seeding.{seeding_start, seeding_on, seeding_step, seeding_all}
use Rattle.retracing.proofs.seeds.seed_rank.Goals as goal

pub loop-w-init : goal.loop-w-init
loop-w-init c = let x = c.requires in seeding_start x.0 x.1 x.2 x.3 x.4 c.get-w.ensures.0

pub loop-w-smaller : goal.loop-w-smaller
loop-w-smaller c =
    let x = c.requires in
    let l = c.loop-w-test.true in let k = seeding_on x.5 (column_paired c.args.bound) x.3 x.4 c.loop-w.invariant l c.seed-end.ensures c.get-w-in-loop-w.ensures.0 in
    omega arith

pub loop-w-preserved : goal.loop-w-preserved
loop-w-preserved c =
    let x = c.requires in
    seeding_step x.5 (column_paired c.args.bound) x.3 x.4 c.loop-w.invariant c.loop-w-test.true c.seed-end.ensures c.get-w-in-loop-w.ensures.0

pub returns : goal.returns
returns c = seeding_all c.loop-w.invariant c.loop-w-test.false
