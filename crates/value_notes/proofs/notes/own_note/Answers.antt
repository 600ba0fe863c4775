-- `value_notes::notes::own_note` meets its contract.
use Rattle.value_notes.proofs.Noting.{own_valued}
use Rattle.value_notes.proofs.notes.own_note.Goals as goal

pub returns : goal.returns
returns c = λ s ns v h. own_valued h
