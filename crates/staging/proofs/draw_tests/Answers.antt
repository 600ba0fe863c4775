-- `staging::draw_tests` meets its contract.
use native.Mathlib.Omega.{arith}
use Rattle.staging.proofs.Drawn.{drawn_none, drawn_step}
use Rattle.staging.proofs.Tests.{gathers_same, gathers_all}
use Rattle.staging.proofs.draw_tests.Goals as goal

pub loop-v-init : goal.loop-v-init
loop-v-init c = drawn_none _ _ _ _

pub loop-v-preserved : goal.loop-v-preserved
loop-v-preserved c =
    let x = c.args in let l = c.loop-v in let r = c.loop-v-test.true in let w = c.tests_at-w in
    drawn_step w.result l.invariant (omega arith) r (gathers_same x.n x.brackets x.numbers x.t.now l.t l.v w.result c.requires.1 r l.invariant w.ensures)

pub returns : goal.returns
returns c = let x = c.args in gathers_all x.n x.brackets x.numbers c.loop-v.invariant c.loop-v-test.false
