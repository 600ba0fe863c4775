-- `counting::count_by_walks` meets its contract.
use mathlib.Core.Path.{◌∙◌}
use Rattle.counting.proofs.Counting.{filled_clean, filled_held, counting_none, counting_step, counting_all}
use Rattle.counting.proofs.count_by_walks.Goals as goal

pub loop-v-init : goal.loop-v-init
loop-v-init c = counting_none c.args.m c.args.n c.args.k _ (filled_clean c.fill.ensures c.fill-2.ensures c.requires.0)

pub loop-v-preserved : goal.loop-v-preserved
loop-v-preserved c =
    let b = c.several_at-b in
    counting_step b.result c.loop-v.invariant c.loop-v-test.true b.ensures.0 b.ensures.1 c.answer.ensures

pub shape_of-p : goal.shape_of-p
shape_of-p c = c.loop-v.invariant.held.middle.long ∙ (filled_held c.fill.ensures c.fill-2.ensures).middle.long

pub returns : goal.returns
returns c = counting_all (filled_held c.fill.ensures c.fill-2.ensures) c.loop-v.invariant c.loop-v-test.false
