-- `evaluation::rank_values` meets its contract.
use Rattle.table.proofs.Trees.{tree_size}
use Rattle.evaluation.proofs.Ranking.{written_annotated, written_within}
use Rattle.evaluation.proofs.rank_values.Goals as goal

pub rank_amounts-requires : goal.rank_amounts-requires
rank_amounts-requires c = written_annotated c.requires c.rank.ensures

pub returns : goal.returns
returns c ns a k =
    let r = c.rank.ensures in let w = c.rank_amounts.ensures in
    (written_within (tree_size c.requires ns a) (r ns a k) w.0, w.1 ns a)
