-- `evaluation::evaluate` meets its contract.
use mathlib.Core.Path.{refl, sym, subst}
use Rattle.verdicts.proofs.Judging.{judged_accepted, positive}
use Rattle.evaluation.specs.Outcomes.{Evaluated}
use Rattle.evaluation.proofs.Calls.{call_refused, call_accepted}
use Rattle.evaluation.proofs.evaluate.Goals as goal

pub select-picked-requires : goal.select-picked-requires
select-picked-requires c = judged_accepted c.in-Ok.ensures refl

pub returns-in-Ok : goal.returns-in-Ok
returns-in-Ok c =
    let s = c.select-picked in
    call_accepted c.in-Ok.ensures c.args.e refl s.result.selected s.result.snippets s.new.scratch s.new.marks s.ensures

pub returns-in-Err : goal.returns-in-Err
returns-in-Err c =
    let a = c.args in
    subst (λ o. Evaluated a.e a.document.now a.rule.now a.scratch.now a.marks.now o a.scratch.now a.marks.now) (sym c.refused.ensures)
    (call_refused c.in-Err.ensures a.e (positive c.in-Err.refusal))
