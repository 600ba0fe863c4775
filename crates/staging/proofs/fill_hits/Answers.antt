-- `staging::fill_hits` meets its contract.
use native.Mathlib.Omega.{arith}
use Rattle.staging.proofs.Drawn.{drawn_none, drawn_step}
use Rattle.staging.proofs.Hits.{hits_same, hits_filled}
use Rattle.staging.proofs.fill_hits.Goals as goal

pub loop-v-init : goal.loop-v-init
loop-v-init c = drawn_none _ _ _ _

pub loop-v-preserved : goal.loop-v-preserved
loop-v-preserved c =
    let d = c.loop-v.invariant in let l = c.loop-v-test.true in let h = c.hit-x in
    drawn_step h.result d (omega arith) l (hits_same {p = c.args.p} {o = c.args.o} d c.requires.1 l h.ensures)

pub returns : goal.returns
returns c = hits_filled c.loop-v.invariant c.loop-v-test.false
