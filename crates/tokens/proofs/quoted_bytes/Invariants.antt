-- `tokens::quoted_bytes` meets its contract.
use Rattle.tokens.proofs.Constants.{QuotedRun}
use Rattle.tokens.proofs.quoted_bytes.Given as goal

abbrev pub invariant-loop-i : goal.invariant-loop-i
invariant-loop-i l = QuotedRun l.s l.at l.i
