-- `lexer::blocks::text_blocks` meets its contract.
use Prim.Native.Nat.{◌-◌}
use lib.ListN.{length}
use Rattle.lexer.specs.declared.Class.TheVariants.{Text}
use Rattle.lexer.specs.Reading.{Passed}
use Rattle.lexer.proofs.blocks.text_blocks.Given as goal

abbrev pub invariant-loop-i : goal.invariant-loop-i
invariant-loop-i l = Passed Text l.most l.s l.at l.i

abbrev pub decreases-loop-i : goal.decreases-loop-i
decreases-loop-i l = length l.s - l.i
