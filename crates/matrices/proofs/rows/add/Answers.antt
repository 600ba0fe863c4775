-- `matrices::rows::add` meets its contract.
use native.Mathlib.Omega.{arith}
use borrow.Author.Rules.{rules}
use Rattle.matrices.proofs.Widening.{joined_none, joined_some}
use Rattle.matrices.proofs.rows.add.Goals as goal

pub returns-then-without-eq0 : goal.returns-then-without-eq0
returns-then-without-eq0 c = joined_none _ _ _ _ c.without.ensures c.if-without-eq0.true

pub returns : goal.returns
returns c = joined_some _ _ _ _ c.without.ensures c.union.result c.if-without-eq0.false (omega arith) (search rules) c.union.ensures
