-- `group_marks::marks::mark_up` meets its contract.
use Prim.Native.Nat.{ℕ, ◌%◌, ◌<◌}
use mathlib.Core.Path.{sym, ap, ◌∙◌, subst}
use native.Mathlib.Omega.{arith}
use Rattle.layout.specs.Table.{PARENT}
use Rattle.layout.proofs.Frames.{before_within, room_within}
use Rattle.group_marks.proofs.Raising.{raising_none, raising_step, raising_note, raising_all, height, height_less}
use Rattle.group_marks.proofs.marks.mark_up.Goals as goal

pub loop-v-init : goal.loop-v-init
loop-v-init c = let p = c.requires in raising_none p.2 p.3

pub get-requires : goal.get-requires
get-requires c = (omega arith, c.loop-v-test.true, room_within c.loop-v.invariant.within c.requires.1)

pub note-requires : goal.note-requires
note-requires c = (room_within c.loop-v.invariant.within c.requires.1, c.loop-v-test.true)

pub returns-then-get-eq1 : goal.returns-then-get-eq1
returns-then-get-eq1 c =
    let h = c.note.ensures in let l = c.loop-v-test.true in
    raising_all (raising_note c.loop-v.invariant h) (λ _. (h.marks c.loop-v.v l ∙ sym (ap (λ (k : ℕ). k % 2) c.get.ensures.0) ∙ c.if-get-eq1.true, h.here))

pub mark-requires : goal.mark-requires
mark-requires c = (room_within c.loop-v.invariant.within c.requires.1, c.loop-v-test.true)

pub parent-v-requires : goal.parent-v-requires
parent-v-requires c = (c.loop-v-test.true, room_within c.mark.ensures.within (room_within c.loop-v.invariant.within c.requires.1))

pub loop-v-preserved : goal.loop-v-preserved
loop-v-preserved c =
    raising_step c.requires.0.1 c.loop-v.invariant c.loop-v-test.true
    (λ m. c.if-get-eq1.false (ap (λ (k : ℕ). k % 2) c.get.ensures.0 ∙ m)) c.mark.ensures c.parent-v.ensures.0

pub loop-v-smaller : goal.loop-v-smaller
loop-v-smaller c =
    let v = c.loop-v.v in let l = c.loop-v-test.true in
    let e = c.parent-v.ensures.0 ∙ before_within (loop-v-preserved c).within PARENT v (omega arith) l in
    subst (λ x. height x < height v) (sym e) (height_less c.requires.0.1 v l)

pub returns : goal.returns
returns c = raising_all c.loop-v.invariant (λ l. absurd (omega arith))
