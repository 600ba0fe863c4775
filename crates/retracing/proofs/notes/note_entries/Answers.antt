-- `retracing::notes::note_entries` meets its contract.
use Rattle.retracing.specs.Notes.{column_of}
use Rattle.retracing.proofs.Noting.{column_paired, noting_none, noting_step, noting_all}
use Rattle.retracing.proofs.notes.note_entries.Goals as goal

pub loop-h-init : goal.loop-h-init
loop-h-init c = let x = c.args in let y = c.requires in noting_none x.n (column_of x.bound) x.x x.second x.from x.len x.p.now y.1 y.0

pub loop-h-preserved : goal.loop-h-preserved
loop-h-preserved c =
    noting_step (column_paired c.args.bound) c.loop-h.invariant c.loop-h-test.true
    c.note_entry.ensures

pub returns : goal.returns
returns c = noting_all c.loop-h.invariant c.loop-h-test.false
