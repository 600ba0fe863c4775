-- `lexer::run` meets its contract.
use Rattle.lexer.specs.Reading.{Passed}
use Rattle.lexer.proofs.run.Given as goal

-- ── The loop's invariant ──
abbrev pub invariant-loop-i : goal.invariant-loop-i
invariant-loop-i l = Passed l.k l.most l.s l.at l.i
