-- `tokens::heads::test_head` meets its contract.
use native.Mathlib.Omega.{arith}
use Rattle.tokens.proofs.FirstBytes.{test_end, test_begins, test_stuck, test_met}
use Rattle.tokens.proofs.heads.test_head.Goals as goal

pub returns-then-at-s : goal.returns-then-at-s
returns-then-at-s c = test_end c.args.s.now c.if-at-s.true

pub returns-in-Some : goal.returns-in-Some
returns-in-Some c = test_begins c.args.s.now (omega arith) c.if-n-le-MAX_NESTING.true c.in-Some.test c.in-Some.ensures

pub returns-in-None : goal.returns-in-None
returns-in-None c = test_stuck c.args.s.now (omega arith) c.in-None.ensures

pub returns-in-Some-2 : goal.returns-in-Some-2
returns-in-Some-2 c = test_met c.args.s.now (omega arith) (omega arith) c.in-Some-2.field-0 c.in-Some-2.ensures
