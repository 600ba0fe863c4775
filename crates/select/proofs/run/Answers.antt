-- `select::run` meets its contract.
use Rattle.std.proofs.lemmas.Result.{on_ok_weaker}
use Rattle.std.specs.Io.KnownBytes.{Appends}
use Rattle.select.specs.Printed.{node_lines}
use Rattle.select.proofs.Printed.{session_printed}
use Rattle.select.proofs.run.Goals as goal

pub returns : goal.returns
returns g c =
    on_ok_weaker c.write_nodes.result
    (λ (w : Appends (g.W.Write.contents c.write_record.new.out) (g.W.Write.contents c.write_nodes.new.out) (node_lines 0 c.session-answer.result.marks)).
    session_printed (g.R.Read.remaining c.args.reader.now) (g.W.Write.contents c.args.out.now) (g.W.Write.contents c.write_record.new.out) (g.W.Write.contents c.write_nodes.new.out)
    c.in_ok-length.length c.read_full.new.buffer c.read_full.auto.buffer c.in_ok-length.ensures.bytes c.session-answer.ensures c.in_ok-write_record.ensures w)
    c.write_nodes.ensures
