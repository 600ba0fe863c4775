-- `evaluation::by_values::evaluate_values` meets its contract.
use mathlib.Core.Path.{refl, sym, subst}
use Rattle.evaluation_spec.specs.Values.{ValuesEvaluation}
use Rattle.verdicts.proofs.Judging.{positive}
use Rattle.verdicts.proofs.JudgingValues.{values_accepted}
use Rattle.evaluation.proofs.Calls.{values_refused, values_evaluated}
use Rattle.evaluation.proofs.by_values.evaluate_values.Goals as goal

pub select_values-picked-requires : goal.select_values-picked-requires
select_values-picked-requires c = values_accepted c.in-Ok.ensures refl

pub returns-in-Ok : goal.returns-in-Ok
returns-in-Ok c =
    let s = c.select_values-picked in
    values_evaluated c.in-Ok.ensures refl s.result.selected s.result.snippets s.new.scratch s.new.marks s.ensures

pub returns-in-Err : goal.returns-in-Err
returns-in-Err c =
    let a = c.args in
    subst (λ o. ValuesEvaluation a.document.now a.rule.now a.values.now a.scratch.now a.marks.now o a.scratch.now a.marks.now) (sym c.refused.ensures)
    (values_refused c.in-Err.ensures (positive c.in-Err.refusal))
