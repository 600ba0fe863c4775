-- `staging::ranks_of` meets its contract.
use native.Mathlib.Omega.{arith}
use Rattle.staging.proofs.Signs.{told_left, ranks_text, ranks_amount}
use Rattle.staging.proofs.ranks_of.Goals as goal

pub returns-then-by_text : goal.returns-then-by_text
returns-then-by_text c = (omega arith, λ q e. ranks_text q ((c.by_text.ensures q e).0 c.if-by_text.true))

pub returns-else-by_text : goal.returns-else-by_text
returns-else-by_text c = (omega arith, λ q e. ranks_amount q (told_left c.if-by_text.false (c.by_text.ensures q e)))
