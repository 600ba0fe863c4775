-- `plain::meets_at` meets its contract.
use mathlib.Core.Path.{◌≡◌, sym, ◌∙◌, subst}
use mathlib.Core.Logic.{◌↔◌}
use mathlib.Core.Bool.{true}
use borrow.Enum.Refused.{opened}
use Rattle.machine.specs.Walks.{Meets}
use Rattle.plain.proofs.Signs.{equal_sign, other_sign}
use Rattle.plain.proofs.meets_at.Goals as goal

pub returns-in-Equal : goal.returns-in-Equal
returns-in-Equal c =
    let x = c.args in let r = c.equal_at in
    (r.ensures.0, λ q e. subst (λ o. (r.result ≡ true) ↔ Meets x.m x.n x.p.now o x.v) (sym (equal_sign q (sym c.in-Equal.is ∙ e))) r.ensures.1)

pub returns-in_default : goal.returns-in_default
returns-in_default c =
    let r = c.ordered_at.ensures in
    (r.0, λ q e. r.1 q (other_sign q e (opened c.in_default.in_default-own.keys2)) e)
