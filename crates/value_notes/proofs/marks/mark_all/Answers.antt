-- `value_notes::marks::mark_all` meets its contract.
use Prim.Native.Nat.{suc, ◌-◌}
use mathlib.Core.Path.{◌≡◌, subst}
use native.Mathlib.Omega.{arith}
use Rattle.value_notes.specs.Values.{Next}
use Rattle.value_notes.specs.Notes.{Marked}
use Rattle.value_notes.proofs.Marking.{filling_none, filling_step}
use Rattle.value_notes.proofs.marks.mark_all.Goals as goal

pub loop-v-init : goal.loop-v-init
loop-v-init c = filling_none c.requires

pub mark-next-requires : goal.mark-next-requires
mark-next-requires c =
    let g = c.loop-v in let x = c.args in let l = c.loop-v-test.true in let w = g.invariant.within in
    let e : g.v ≡ suc (g.v - 1) = omega arith in
    (subst (λ i. Marked x.s.now x.n i g.t) e g.invariant.marked, omega arith, λ ns a. subst (λ i. Next ns i g.next) e (g.invariant.next ns a), g.invariant.small)

pub loop-v-preserved : goal.loop-v-preserved
loop-v-preserved c = let q = c.mark-next.ensures in filling_step c.loop-v.invariant q.0 q.1 q.2 q.3

pub returns : goal.returns
returns c =
    let g = c.loop-v in let x = c.args in let l = c.loop-v-test.false in
    let e : g.v ≡ 0 = omega arith in
    (subst (λ i. Marked x.s.now x.n i g.t) e g.invariant.marked, g.invariant.noted)
