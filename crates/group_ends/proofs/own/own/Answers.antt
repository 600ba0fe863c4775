-- `group_ends::own::own` meets its contract.
use mathlib.Core.Path.{sym, ◌∙◌}
use Rattle.group_ends.proofs.Owning.{own_here, own_none}
use Rattle.group_ends.proofs.own.own.Goals as goal

pub returns-then-get-r : goal.returns-then-get-r
returns-then-get-r c P R t d ready ranks = own_here P R t d ready ranks c.requires.0 c.before-then-get-r.result c.loop_at.result (sym c.get.ensures.0 ∙ c.if-get-r.true) c.loop_at.ensures c.before-then-get-r.ensures

pub returns : goal.returns
returns c P R t d ready ranks = own_none P R t d ready ranks c.requires.0 (λ e. c.if-get-r.false (c.get.ensures.0 ∙ e))
