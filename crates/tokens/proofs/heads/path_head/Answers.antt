-- `tokens::heads::path_head` meets its contract.
use native.Mathlib.Omega.{arith}
use Rattle.tokens.proofs.FirstBytes.{path_end, path_begins, path_stuck, path_met}
use Rattle.tokens.proofs.heads.path_head.Goals as goal

pub returns-then-at-s : goal.returns-then-at-s
returns-then-at-s c = path_end c.args.s.now c.if-at-s.true

pub returns-in-Some : goal.returns-in-Some
returns-in-Some c = path_begins c.args.s.now (omega arith) c.if-n-le-MAX_NESTING.true c.in-Some.path c.in-Some.ensures

pub returns-in-None : goal.returns-in-None
returns-in-None c = path_stuck c.args.s.now (omega arith) c.in-None.ensures

pub returns-in-Some-2 : goal.returns-in-Some-2
returns-in-Some-2 c = path_met c.args.s.now (omega arith) (omega arith) c.in-Some-2.field-0 c.in-Some-2.ensures
