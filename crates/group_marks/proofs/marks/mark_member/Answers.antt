-- `group_marks::marks::mark_member` meets its contract.
use native.Mathlib.Omega.{arith}
use Rattle.layout.proofs.Frames.{room_within}
use Rattle.machine.proofs.Shape.{shape_within}
use Rattle.group_marks.proofs.Noting.{closed_note}
use Rattle.group_marks.proofs.Raising.{raised_joined}
use Rattle.group_marks.proofs.marks.mark_member.Goals as goal

pub mark_up-requires : goal.mark_up-requires
mark_up-requires c = let p = c.requires in let h = c.note.ensures in ((p.0.0, shape_within (omega arith) h.within p.0.1), room_within h.within p.1, p.2, closed_note h p.3)

pub returns : goal.returns
returns c = raised_joined c.requires.2 c.note.ensures c.mark_up.ensures
