-- `numerals::at_start` meets its contract.
use mathlib.Core.Path.{◌∙◌}
use native.Mathlib.Omega.{arith}
use Rattle.numerals.proofs.Scans.{start_minus, start_plain}
use Rattle.numerals.proofs.at_start.Goals as goal

pub returns-then-b-eq45 : goal.returns-then-b-eq45
returns-then-b-eq45 c = start_minus c.args.b (omega arith)

pub returns-else-b-eq45 : goal.returns-else-b-eq45
returns-else-b-eq45 c = λ bs. c.in_whole.ensures bs ∙ start_plain c.args.b (omega arith) bs
