-- `verdicts::judge_texts` meets its contract.
use Rattle.verdicts.specs.Judging.{JudgesTexts}
use Rattle.verdicts.proofs.Judging.{handed_on, first_refused, second_refused, both_accepted}
use Rattle.verdicts.proofs.judge_texts.Goals as goal

pub returns-in_err-nodes : goal.returns-in_err-nodes
returns-in_err-nodes c =
    handed_on (JudgesTexts c.args.document.now c.args.rule.now) _ _ c.from_residual.ensures.1 (first_refused _ c.in_err-nodes.ensures)

pub returns-in_err-check : goal.returns-in_err-check
returns-in_err-check c =
    handed_on (JudgesTexts c.args.document.now c.args.rule.now) _ _ c.from_residual-in_err-check.ensures.1 (second_refused c.in_ok-nodes.ensures _ c.in_err-check.ensures)

pub returns : goal.returns
returns c = both_accepted c.in_ok-nodes.ensures c.in_ok-check.ensures
