-- `backward::constants::spread_hit` meets its contract.
use mathlib.Core.Path.{sym, ◌∙◌}
use Rattle.backward.proofs.Hitting.{hit_taken, hit_missed}
use Rattle.backward.proofs.constants.spread_hit.Goals as goal

pub returns-then-get-eq1 : goal.returns-then-get-eq1
returns-then-get-eq1 c =
    hit_taken c.requires.3 (sym c.get.ensures.0 ∙ c.if-get-eq1.true) c.spread.ensures

pub returns : goal.returns
returns c = let x = c.requires in hit_missed x.0 (λ e. c.if-get-eq1.false (c.get.ensures.0 ∙ e))
