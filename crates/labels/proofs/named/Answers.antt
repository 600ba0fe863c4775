-- `labels::named` meets its contract.
use native.Mathlib.Numerals.{add-one}
use Rattle.table.specs.Tabled.{Worked}
use Rattle.table.proofs.Worked.{worked_linked, worked_tree}
use Rattle.test_bits.proofs.Settling.{settling_none, settling_step, settling_all}
use Rattle.labels.proofs.Kept.{settling_worked}
use Rattle.labels.proofs.named.Goals as goal

pub loop-v-init : goal.loop-v-init
loop-v-init c = λ ns a l. settling_none _ _ _ _

pub has_name-x-requires : goal.has_name-x-requires
has_name-x-requires c =
    let p = c.requires in
    (worked_tree p.0 (let worked-here : Worked c.args.n c.args.t.now c.loop-v.t = let h = c.requires.0 in settling_worked (c.loop-v.invariant h.nodes h.accepts h.linked) in worked-here), c.loop-v-test.true, p.2, p.3)

pub note-requires : goal.note-requires
note-requires c =
    let p = c.requires in
    (p.1, c.loop-v-test.true, (worked_tree p.0 (let worked-here : Worked c.args.n c.args.t.now c.loop-v.t = let h = c.requires.0 in settling_worked (c.loop-v.invariant h.nodes h.accepts h.linked) in worked-here)).room)

pub loop-v-preserved : goal.loop-v-preserved
loop-v-preserved c = λ ns a k.
    let p = c.requires in
    rw add-one (settling_step p.1 c.loop-v-test.true (c.loop-v.invariant ns a k)
    (c.has_name-x.ensures ns a (worked_linked p.0 (let worked-here : Worked c.args.n c.args.t.now c.loop-v.t = let h = c.requires.0 in settling_worked (c.loop-v.invariant h.nodes h.accepts h.linked) in worked-here) ns a k))
    c.note.ensures)

pub shape_of-t : goal.shape_of-t
shape_of-t c = (let worked-here : Worked c.args.n c.args.t.now c.loop-v.t = let h = c.requires.0 in settling_worked (c.loop-v.invariant h.nodes h.accepts h.linked) in worked-here).long

pub returns : goal.returns
returns c = λ ns a k. settling_all c.loop-v-test.false (c.loop-v.invariant ns a k)
