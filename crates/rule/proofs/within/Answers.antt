-- `rule::within` meets its contract.
use native.Mathlib.Omega.{arith}
use Rattle.rule.proofs.Tallied.{within_tests, within_steps, within_all}
use Rattle.rule.proofs.within.Goals as goal

pub returns-then-t-lt-NOWHERE : goal.returns-then-t-lt-NOWHERE
returns-then-t-lt-NOWHERE c = within_tests c.args.t c.if-t-lt-NOWHERE.true

pub returns-then-t-lt-NOWHERE-2 : goal.returns-then-t-lt-NOWHERE-2
returns-then-t-lt-NOWHERE-2 c = within_steps c.args.t (omega arith) c.if-t-lt-NOWHERE-2.true

pub returns : goal.returns
returns c = within_all c.args.t (omega arith) (omega arith)
