-- `staging::draw_text_hits` meets its contract.
use Rattle.table.proofs.Trees.{tree_size}
use Rattle.staging.proofs.Hits.{judged_text}
use Rattle.staging.proofs.draw_text_hits.Goals as goal

pub returns : goal.returns
returns c =
    let x = c.args in let p = c.find_place-p in
    λ ns q k a r g e y w. judged_text (tree_size c.requires.0.tabled ns a) q e k x.rule.now x.c w y r (p.ensures ns a r g) c.fill_hits.ensures
