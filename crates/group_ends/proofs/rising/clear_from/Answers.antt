-- `group_ends::rising::clear_from` meets its contract.
use native.Mathlib.Omega.{arith}
use Rattle.group_ends.proofs.Ascending.{cleared_step, cleared_block}
use Rattle.group_ends.proofs.rising.clear_from.Goals as goal

pub returns-then-is_empty : goal.returns-then-is_empty
returns-then-is_empty c = let h = c.block_end.ensures in (h.0, λ p₀ g. cleared_block h.0 h.1 h.2 (c.is_empty.ensures c.if-is_empty.true) g)

pub returns : goal.returns
returns c = (omega arith, λ p₀ g. cleared_step g c.requires.1 c.put.ensures c.put-2.ensures)
