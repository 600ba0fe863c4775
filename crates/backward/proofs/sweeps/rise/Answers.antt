-- `backward::sweeps::rise` meets its contract.
use native.Mathlib.Omega.{arith}
use Rattle.layout.specs.Sweeps.{LEAST}
use Rattle.backward.proofs.Ranking.{rising_none, rising_step, rising_all, spared_buckets}
use Rattle.backward.proofs.sweeps.rise.Goals as goal

pub loop-r-init : goal.loop-r-init
loop-r-init c = (omega arith, rising_none c.requires.0 c.requires.1)

pub seed_rank-len-requires : goal.seed_rank-len-requires
seed_rank-len-requires c =
    let s = c.loop-r.invariant.1 in let x = c.requires in let few = s.added.work.space.few in let l = c.loop-r-test.true in
    (s.added.work, s.linked, s.closed, spared_buckets LEAST (omega arith) s.added.spared x.2, l, x.3, omega arith)

pub loop-r-preserved : goal.loop-r-preserved
loop-r-preserved c =
    let x = c.requires in let l = c.loop-r-test.true in
    (omega arith, rising_step x.3 x.0.work c.loop-r.invariant.1 c.seed_rank-len.ensures)

pub returns : goal.returns
returns c = let i = c.loop-r.invariant.0 in let l = c.loop-r-test.false in rising_all (omega arith) c.loop-r.invariant.1
