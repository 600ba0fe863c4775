-- `backward::order::answer_ordered` meets its contract.
use mathlib.Core.Path.{◌≡◌, ◌∙◌, subst₂}
use mathlib.Core.Logic.{◌↔◌}
use mathlib.Core.Bool.{true}
use native.Mathlib.Omega.{arith}
use Rattle.rank_sets.specs.Ranges.{Across}
use Rattle.backward.specs.Sweeps.{range_of}
use Rattle.backward.proofs.Telling.{telling_none, telling_step, telling_space, telling_range, telling_all}
use Rattle.backward.proofs.order.answer_ordered.Goals as goal

pub loop-v-init : goal.loop-v-init
loop-v-init c = let x = c.args in telling_none x.n (λ u. Across x.o (range_of x.p.now x.n 0 u) (range_of x.p.now x.n 1 u)) x.p.now

pub range_at-a-requires : goal.range_at-a-requires
range_at-a-requires c = let s = telling_space c.loop-v.invariant c.requires in let r = s.room in (omega arith, c.loop-v-test.true, omega arith)

pub range_at-b-requires : goal.range_at-b-requires
range_at-b-requires c =
    let s = telling_space c.loop-v.invariant c.requires in let r = s.room in
    (omega arith, c.loop-v-test.true, omega arith)

pub answer-requires : goal.answer-requires
answer-requires c =
    (telling_space c.loop-v.invariant c.requires, c.loop-v-test.true)

pub loop-v-preserved : goal.loop-v-preserved
loop-v-preserved c =
    let x = c.args in let v = c.loop-v.v in
    let same = telling_range c.loop-v.invariant v in
    telling_step c.ordered.result c.loop-v.invariant c.loop-v-test.true
    (subst₂ (λ y z. (c.ordered.result ≡ true) ↔ Across x.o y z) (c.range_at-a.ensures.0 ∙ same 0) (c.range_at-b.ensures.0 ∙ same 1) c.ordered.ensures) c.answer.ensures

pub returns : goal.returns
returns c = telling_all c.loop-v.invariant c.loop-v-test.false
