-- `document_lines::lines::read_label` meets its contract.
use borrow.Author.Rules.{rules}
use native.Mathlib.Omega.{arith}
use Rattle.document_lines.proofs.LineForms.{label_none, label_unled, label_room, label_led}
use Rattle.document_lines.proofs.lines.read_label.Goals as goal

pub returns-in_err-next : goal.returns-in_err-next
returns-in_err-next c = let a = c.args in rw c.from_residual.ensures (label_none a.s.now a.at c.in_err-next.ensures)

pub bounds-s-at : goal.bounds-s-at
bounds-s-at c = let a = c.args in label_room a.s.now a.at _ c.requires c.in_ok-next.ensures

pub returns-in-97-to-122 : goal.returns-in-97-to-122
returns-in-97-to-122 c = let a = c.args in label_led a.s.now a.at _ c.in_ok-next.ensures (search rules)

pub returns-in_default : goal.returns-in_default
returns-in_default c = let a = c.args in label_unled a.s.now a.at (λ h. omega arith)

pub returns-in_default-2 : goal.returns-in_default-2
returns-in_default-2 c = let a = c.args in label_unled a.s.now a.at (λ h. omega arith)
