-- `first_snippets::add_group` meets its contract.
use native.Mathlib.Omega.{arith}
use Rattle.layout.proofs.Rest.{rest_within}
use Rattle.powers.proofs.Rest.{stage_shape, sizes_front}
use Rattle.group_ends.proofs.Rest.{given_rest}
use Rattle.first_snippets.proofs.Adding.{given_marked, group_added}
use Rattle.first_snippets.proofs.add_group.Goals as goal

pub mark_group-requires : goal.mark_group-requires
mark_group-requires c = let s = c.requires in let h = sizes_front s.base.sizes in ((s.base.tree, stage_shape s.base.founded.stage), omega arith, s.base.buckets, s.rank)

pub rise-requires : goal.rise-requires
rise-requires c = given_marked c.requires c.mark_group.ensures

pub sink-requires : goal.sink-requires
sink-requires c = given_rest (rest_within (omega arith) c.rise.ensures.within) (given_marked c.requires c.mark_group.ensures)

pub returns : goal.returns
returns c = group_added c.mark_group.ensures c.rise.ensures c.sink.ensures
