-- `staging::draw_amount_hits` meets its contract.
use mathlib.Core.Path.{sym, ◌∙◌}
use Rattle.blanks.specs.Trimmed.{between}
use Rattle.table.proofs.Trees.{tree_size, tree_small}
use Rattle.staging.proofs.Hits.{judged_none, judged_amount}
use Rattle.staging.proofs.draw_amount_hits.Goals as goal

pub returns-then-k-eq-NO_KEY : goal.returns-then-k-eq-NO_KEY
returns-then-k-eq-NO_KEY c =
    let x = c.args in
    λ ns q k a r g e f w. judged_none q k (between x.rule.now x.c) w c.clear_hits.ensures f (sym c.key_of-k.ensures ∙ c.if-k-eq-NO_KEY.true)

pub returns-else-k-eq-NO_KEY : goal.returns-else-k-eq-NO_KEY
returns-else-k-eq-NO_KEY c =
    let x = c.args in let p = c.find_place-p in let i = c.key_of-k in
    λ ns q k a r g e f w. judged_amount (tree_size c.requires.0.tabled ns a) q e k x.rule.now x.c w i.ensures c.if-k-eq-NO_KEY.false f (tree_small a) g (p.ensures ns a r g) c.fill_hits.ensures
