-- `backward::constants::answer_seen` meets its contract.
use Prim.Native.Nat.{ℕ}
use mathlib.Core.Path.{◌≡◌, sym, ap, ◌∙◌}
use native.Mathlib.Omega.{arith}
use Rattle.bits.specs.Sets.{bit}
use Rattle.layout.specs.Part.{SEEN}
use Rattle.layout.specs.Words.{cell, word}
use Rattle.reach.specs.Work.{Seen}
use Rattle.backward.proofs.Telling.{telling_none, telling_step, telling_space, telling_all}
use Rattle.backward.proofs.constants.answer_seen.Goals as goal

pub loop-v-init : goal.loop-v-init
loop-v-init c = let x = c.args in telling_none x.n (λ u. Seen x.p.now x.n u 0) x.p.now

pub get-seen-requires : goal.get-seen-requires
get-seen-requires c = let s = telling_space c.loop-v.invariant c.requires in let r = s.room in (omega arith, c.loop-v-test.true, omega arith)

pub answer-requires : goal.answer-requires
answer-requires c = (telling_space c.loop-v.invariant c.requires, c.loop-v-test.true)

pub loop-v-preserved : goal.loop-v-preserved
loop-v-preserved c =
    let h = c.has in let s = c.get-seen in
    let l = c.loop-v-test.true in let x = c.args in
    let e : h.result ≡ bit (word x.p.now x.n SEEN c.loop-v.v) 0 = h.ensures ∙ ap (λ (y : ℕ). bit y 0) (s.ensures.0 ∙ c.loop-v.invariant.kept.behind (cell x.n SEEN c.loop-v.v) (omega arith)) in
    telling_step h.result c.loop-v.invariant l (λ q. sym e ∙ q, λ q. e ∙ q) c.answer.ensures

pub returns : goal.returns
returns c = telling_all c.loop-v.invariant c.loop-v-test.false
