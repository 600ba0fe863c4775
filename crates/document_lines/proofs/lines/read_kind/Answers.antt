-- `document_lines::lines::read_kind` meets its contract.
use Rattle.document_lines.proofs.LineForms.{kind_none}
use Rattle.document_lines.proofs.lines.read_kind.Goals as goal

pub returns-in_err-j : goal.returns-in_err-j
returns-in_err-j c = let a = c.args in rw c.from_residual.ensures (kind_none a.s.now a.at c.in_err-j.ensures)
