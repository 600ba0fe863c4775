-- `backward::sweeps::fall` meets its contract.
use native.Mathlib.Omega.{arith}
use Rattle.layout.specs.Sweeps.{ABOVE}
use Rattle.backward.proofs.Ranking.{falling_none, falling_step, falling_all, spared_buckets}
use Rattle.backward.proofs.sweeps.fall.Goals as goal

pub loop-r-init : goal.loop-r-init
loop-r-init c = let x = c.requires in falling_none x.0 x.1

pub seed_rank-len-requires : goal.seed_rank-len-requires
seed_rank-len-requires c =
    let s = c.loop-r.invariant in let x = c.requires in let few = s.added.work.space.few in let l = c.loop-r-test.true in
    (s.added.work, s.linked, s.closed, spared_buckets ABOVE (omega arith) s.added.spared x.2, omega arith, x.3, omega arith)

pub loop-r-preserved : goal.loop-r-preserved
loop-r-preserved c =
    let x = c.requires in let l = c.loop-r-test.true in
    falling_step x.3 x.0.work c.loop-r.invariant (omega arith) (omega arith) c.seed_rank-len.ensures

pub returns : goal.returns
returns c = let l = c.loop-r-test.false in falling_all c.loop-r.invariant (omega arith)
