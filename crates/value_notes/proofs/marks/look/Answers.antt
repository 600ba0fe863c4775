-- `value_notes::marks::look` meets its contract.
use Rattle.value_notes.proofs.marks.look.Goals as goal

pub note_of-note-requires : goal.note_of-note-requires
note_of-note-requires c =
    let (s, ns, g, a, l, h, z) = c.requires in
    (s, ns, g, a, l, h, z, c.inside-y.ensures s ns g a)

pub returns : goal.returns
returns c =
    λ s ns g a l h z.
    let k = c.inside-y.ensures s ns g a in
    record {
      texts = λ m d. c.gather-texts.ensures s ns m g a d (c.own.ensures s ns h z) k;
      value = c.note_of-note.ensures s ns g a l h z k;
    }
