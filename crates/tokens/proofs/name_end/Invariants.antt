-- `tokens::name_end` meets its contract.
use Rattle.tokens.proofs.Names.{TailRun}
use Rattle.tokens.proofs.name_end.Given as goal

abbrev pub invariant-loop-i : goal.invariant-loop-i
invariant-loop-i l = TailRun l.s l.at l.i
