-- `evaluators::by_snippets` meets its contract.
use mathlib.Core.Path.{sym, ap, ◌∙◌, subst}
use mathlib.Core.Logic.{◌≢◌}
use Rattle.xpath.specs.Syntax.{eq}
use Rattle.rule_parts.specs.Kinds.{operator}
use Rattle.machine.proofs.Comparing.{second_few_lem}
use Rattle.plain.proofs.Signs.{equal_sign}
use Rattle.retracing.proofs.Linked.{linked_drawn}
use Rattle.evaluators.specs.Evaluators.{Compared}
use Rattle.evaluators.specs.declared.Evaluator.TheVariants.{Snippets}
use Rattle.evaluators.proofs.Staging.{drawn_space, equal_posed}
use Rattle.evaluators.proofs.Snippeting.{other_compared}
use Rattle.evaluators.proofs.by_snippets.Goals as goal

pub by_groups-requires : goal.by_groups-requires
by_groups-requires c =
    let x = c.requires in
    ((x.0.0, x.0.1, x.0.2, equal_posed x.0.5 (sym c.in-Equal.is ∙ x.0.4)), x.1)

pub compare_order-requires : goal.compare_order-requires
compare_order-requires c = let x = c.requires in let h = x.0.5 in (drawn_space h.formed h.drawn x.1, second_few_lem h.machine, linked_drawn h.drawn)

pub returns-in-Equal : goal.returns-in-Equal
returns-in-Equal c P R t q posed e =
    let x = c.args in let r = c.by_groups in let f = sym c.in-Equal.is ∙ e in
    subst (λ o. Compared Snippets t o P R x.n x.p.now r.new.p r.result) (sym (equal_sign q f)) (r.ensures P R t (equal_posed posed f))

pub returns-in_default : goal.returns-in_default
returns-in_default c P R t q posed e = let d : q ≢ eq = λ z. c.in_default.not-Equal (e ∙ ap operator z) in other_compared posed d (c.compare_order.ensures q d e)
