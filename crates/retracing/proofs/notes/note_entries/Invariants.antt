-- `retracing::notes::note_entries` meets its contract.
use Rattle.retracing.specs.Notes.{column_of}
use Rattle.retracing.proofs.Noting.{Noting}
use Rattle.retracing.proofs.notes.note_entries.Given as goal

abbrev pub invariant-loop-h : goal.invariant-loop-h
invariant-loop-h l = Noting l.n (column_of l.bound) l.x l.second l.from l.h l.len l.initial.p l.p
