-- `values::value_of` meets its contract.
use Rattle.values.proofs.Cursor.{note_here, note_first, opens_alone, opens_several, note_several}
use Rattle.values.proofs.value_of.Goals as goal

pub get_note-y-requires : goal.get_note-y-requires
get_note-y-requires c =
    let ((s, a), l) = c.requires in
    let h = note_several (note_here a a.tabled.accepts l c.get_note-x.ensures.0) c.if-x-eq-NONE.true in
    (note_first a a.tabled.accepts h, a.tabled.room)

pub returns-then-x-eq-NONE : goal.returns-then-x-eq-NONE
returns-then-x-eq-NONE c =
    let l = c.requires.1 in
    let x = c.get_note-x in
    let y = c.get_note-y in
    λ s ns a k.
    let h = note_several (note_here a k l x.ensures.0) c.if-x-eq-NONE.true in
    opens_several h (note_here a k (note_first a k h) y.ensures.0)

pub returns : goal.returns
returns c =
    let l = c.requires.1 in
    λ s ns a k. opens_alone (note_here a k l c.get_note-x.ensures.0) c.if-x-eq-NONE.false
