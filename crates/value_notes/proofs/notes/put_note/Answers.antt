-- `value_notes::notes::put_note` meets its contract.
use Rattle.value_notes.proofs.Columns.{noted_wrote}
use Rattle.value_notes.proofs.notes.put_note.Goals as goal

pub returns : goal.returns
returns c =
    noted_wrote c.args.n c.args.v c.args.x c.requires.0 c.put.ensures c.put-2.ensures c.put-3.ensures c.put-4.ensures
