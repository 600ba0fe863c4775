-- `document_lines::entries::first_entry` meets its contract.
use Rattle.lists.specs.Text.{bytes}
use Rattle.lexer.specs.Reading.{NumberedLine}
use Rattle.document_lines.proofs.NodeLines.{count_there, count_is}
use Rattle.document_lines.proofs.EntryLines.{must_be}
use Rattle.document_lines.proofs.entries.first_entry.Goals as goal

pub unwrap-requires : goal.unwrap-requires
unwrap-requires c = must_be (NumberedLine (bytes "nodes=") 5 c.args.s.now 0) c.number_line.result (count_there c.requires.1) c.number_line.ensures

pub returns : goal.returns
returns c = λ ns a. count_is a (rw c.unwrap.ensures at c.number_line.ensures)
