-- `document_lines::lines::read_value` meets its contract.
use Rattle.lexer.specs.Reading.{Behind, Run}
use Rattle.lists.specs.Text.{bytes}
use Rattle.lexer.specs.declared.Class.TheVariants.{Text}
use Rattle.document_lines.specs.Nodes.{IsValue}
use Rattle.document_lines.proofs.LineForms.{ended_as, run_value, value_run}
use Rattle.document_lines.proofs.lines.read_value.Goals as goal

pub returns : goal.returns
returns c = let a = c.args in ended_as (Behind (bytes "value=") (Run Text 255)) IsValue run_value value_run a.s.now a.at c.run_line.result c.run_line.ensures
