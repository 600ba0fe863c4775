-- `first_snippets::add_rank` meets its contract.
use Rattle.first_snippets.proofs.Adding.{grounds_of, rank_added, rank_alone}
use Rattle.first_snippets.proofs.add_rank.Goals as goal

pub add_group-requires : goal.add_group-requires
add_group-requires c = let s = c.requires in grounds_of s.0 s.1 (c.is_shared.ensures.0 c.if-is_shared.true)

pub returns-then-is_shared : goal.returns-then-is_shared
returns-then-is_shared c = rank_added (c.is_shared.ensures.0 c.if-is_shared.true) c.add_group.ensures

pub returns-else-is_shared : goal.returns-else-is_shared
returns-else-is_shared c = rank_alone (c.is_shared.ensures.1 c.if-is_shared.false)
