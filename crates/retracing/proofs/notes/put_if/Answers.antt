-- `retracing::notes::put_if` meets its contract.
use mathlib.Core.Path.{refl}
use Rattle.retracing.specs.Notes.{put, skip}
use Rattle.retracing.proofs.notes.put_if.Goals as goal

pub returns-then-b : goal.returns-then-b
returns-then-b c = put c.if-b.true c.put.ensures

pub returns-else-b : goal.returns-else-b
returns-else-b c = skip c.if-b.false refl
