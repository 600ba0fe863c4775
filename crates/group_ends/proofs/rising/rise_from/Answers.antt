-- `group_ends::rising::rise_from` meets its contract.
use Rattle.group_ends.proofs.Ascending.{rises_block}
use Rattle.group_ends.proofs.rising.rise_from.Goals as goal

pub returns-then-is_empty : goal.returns-then-is_empty
returns-then-is_empty c = let h = c.block_start.ensures in (h.0, rises_block h.0 h.1 (c.is_empty.ensures c.if-is_empty.true))
