-- `lexer::run_line` meets its contract.
use Rattle.lexer.specs.Reading.{Run}
use Rattle.lexer.proofs.Keys.{key_spans, no_key_ended, behind_ended}
use Rattle.lexer.proofs.run_line.Goals as goal

pub returns-in_err-i : goal.returns-in_err-i
returns-in_err-i c = let a = c.args in rw c.from_residual.ensures (no_key_ended a.s.now a.key.now a.at (Run a.k a.most) c.in_err-i.ensures)

pub returns : goal.returns
returns c = let a = c.args in behind_ended a.s.now a.key.now a.at c.in_ok-i.i (key_spans a.s.now a.key.now a.at _ c.in_ok-i.ensures) (Run a.k a.most) c.run.result c.run.ensures
