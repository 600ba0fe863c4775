-- `rule_readers::tally::begin` meets its contract.
use native.Mathlib.Omega.{arith}
use Rattle.rule_readers.proofs.Tallied.{begun_some, begun_first, begun_later}
use Rattle.rule_readers.proofs.tally.begin.Goals as goal

pub returns-then-t-gt0 : goal.returns-then-t-gt0
returns-then-t-gt0 c = begun_some c.args.t c.args.at (omega arith)

pub returns-then-t-eq-NOWHERE : goal.returns-then-t-eq-NOWHERE
returns-then-t-eq-NOWHERE c = begun_first c.args.t c.args.at (omega arith) c.if-t-eq-NOWHERE.true

pub returns : goal.returns
returns c = begun_later c.args.t c.args.at (omega arith) c.if-t-eq-NOWHERE.false
