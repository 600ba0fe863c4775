-- `value_notes::notes::get_note` meets its contract.
use Rattle.value_notes.proofs.Columns.{note_of}
use Rattle.value_notes.proofs.notes.get_note.Goals as goal

pub returns : goal.returns
returns c =
    let p = c.get.ensures in let a = c.get-2.ensures in let b = c.get-3.ensures in let k = c.get-4.ensures in
    (note_of p.0 a.0 b.0 k.0, (p.1, a.1, b.1, k.1))
