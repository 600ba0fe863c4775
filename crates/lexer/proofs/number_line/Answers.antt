-- `lexer::number_line` meets its contract.
use Rattle.lexer.proofs.Keys.{key_spans, no_key_numbered, behind_numbered}
use Rattle.lexer.proofs.number_line.Goals as goal

pub returns-in_err-i : goal.returns-in_err-i
returns-in_err-i c = let a = c.args in rw c.from_residual.ensures (no_key_numbered a.s.now a.key.now a.at a.most c.in_err-i.ensures)

pub returns : goal.returns
returns c = let a = c.args in behind_numbered a.s.now a.key.now a.at c.in_ok-i.i (key_spans a.s.now a.key.now a.at _ c.in_ok-i.ensures) a.most c.read_number.result c.read_number.ensures
