-- `first_snippets::sinking::sink_from` meets its contract.
use native.Mathlib.Omega.{arith}
use Rattle.first_snippets.proofs.Descending.{sank_step, sank_block}
use Rattle.first_snippets.proofs.sinking.sink_from.Goals as goal

pub returns-then-is_empty : goal.returns-then-is_empty
returns-then-is_empty c = let h = c.block_end.ensures in (h.0, h.1, λ p₀ g. sank_block h.0 h.2 (c.is_empty.ensures c.if-is_empty.true) g)

pub returns : goal.returns
returns c = let l = c.requires.1 in (omega arith, omega arith, λ p₀ g. sank_step g c.sink_at.ensures)
