-- `lexer::blocks::text_block` meets its contract.
use mathlib.Core.Path.{◌≡◌}
use mathlib.Core.Bool.{true}
use Prim.Native.Nat.{◌+◌, ◌≤◌}
use Rattle.lexer.specs.declared.Class.TheVariants.{Text}
use Rattle.lexer.specs.Reading.{AllIn}
use Rattle.lexer.proofs.blocks.text_block.Given as goal

abbrev pub invariant-loop-i : goal.invariant-loop-i
invariant-loop-i l = (l.i ≤ 16) × (l.all ≡ true → AllIn Text l.s l.at (l.at + l.i))
