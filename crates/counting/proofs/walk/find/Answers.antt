-- `counting::walk::find` meets its contract.
use mathlib.Core.Path.{sym, ◌∙◌}
use Rattle.rank_sets.proofs.Telling.{denied}
use Rattle.counting.proofs.Finding.{find_passed, find_known, find_new}
use Rattle.counting.proofs.walk.find.Goals as goal

pub returns-then-not-touches : goal.returns-then-not-touches
returns-then-not-touches c = let x = c.args in find_passed x.last x.count c.entry_at-e.ensures (denied c.touches.ensures c.if-not-touches.true)

pub returns-then-get-eq1 : goal.returns-then-get-eq1
returns-then-get-eq1 c = let x = c.args in find_known x.last x.count c.entry_at-e.ensures (sym c.get.ensures.0 ∙ c.if-get-eq1.true)

pub returns : goal.returns
returns c =
    let x = c.args in
    find_new x.last x.count c.entry_at-e.ensures (c.touches.ensures.0 c.if-not-touches.false) (λ e. c.if-get-eq1.false (c.get.ensures.0 ∙ e)) c.put.ensures
