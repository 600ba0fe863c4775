-- `test_bits::notes::note` meets its contract.
use Rattle.test_bits.proofs.Noting.{noted}
use Rattle.test_bits.proofs.notes.note.Goals as goal

pub returns : goal.returns
returns c =
    let p = c.before.before.before.before.before.before.before.before.requires in
    noted p.0 p.1 c.get-w.ensures.0 c.with_bit-x.ensures c.put.ensures
