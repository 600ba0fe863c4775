-- `select::read_full` meets its contract.
use Rattle.std.proofs.Common.{rules, length, ◌-◌}
use Rattle.select.proofs.Given.{given_more}
use Rattle.select.proofs.read_full.Goals as goal

pub loop-filled-preserved : goal.loop-filled-preserved
loop-filled-preserved g c = record {
  inside = search rules;
  given = given_more (g.R.Read.remaining c.args.reader.now) (g.R.Read.remaining c.loop-filled.reader) (g.R.Read.remaining c.read.new.self)
      c.loop-filled.filled c.in_ok-count.count (length c.loop-filled.buffer - c.loop-filled.filled) c.loop-filled.buffer c.read.new.buf
      c.loop-filled.invariant.inside c.in_ok-count.ensures.bound.0 c.loop-filled.invariant.given c.in_ok-count.ensures.bytes.0;
}
