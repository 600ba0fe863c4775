-- `staging::draw_hits` meets its contract.
use lib.Seq.{slice}
use Rattle.blanks.proofs.Trimming.{trimmed_whole}
use Rattle.staging.proofs.Signs.{told_left}
use Rattle.staging.proofs.draw_hits.Goals as goal

pub returns-then-by_text : goal.returns-then-by_text
returns-then-by_text c =
    let x = c.args in let w = c.trim-c in
    λ ns q a r g e. c.draw_text_hits.ensures ns q (slice x.from x.to x.rule.now) a r g e ((c.by_text.ensures q e).0 c.if-by_text.true)
    (trimmed_whole x.rule.now (record { from = x.from; to = x.to }) w.result w.ensures c.requires.3)

pub returns-else-by_text : goal.returns-else-by_text
returns-else-by_text c =
    let x = c.args in let w = c.trim-c in
    λ ns q a r g e. c.draw_amount_hits.ensures ns q (slice x.from x.to x.rule.now) a r g e (told_left c.if-by_text.false (c.by_text.ensures q e))
    (trimmed_whole x.rule.now (record { from = x.from; to = x.to }) w.result w.ensures c.requires.3)
