use native.Mathlib.Omega.{arith}
use Rattle.limits.proofs.Digits.{leading_digits}
use Rattle.limits.proofs.Document.digits.Goals as goal

pub overflow_cast-result : goal.overflow_cast-result
overflow_cast-result c = let h = leading_digits 64 c.args.nodes c.requires.0 (omega arith) in omega arith

pub overflow_sub-result : goal.overflow_sub-result
overflow_sub-result c = let h = leading_digits 64 c.args.nodes c.requires.0 (omega arith) in omega arith

pub returns : goal.returns
returns c = let h = leading_digits 64 c.args.nodes c.requires.0 (omega arith) in omega arith
