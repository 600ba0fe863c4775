-- `verdicts::check_rule` meets its contract.
use mathlib.Core.Path.{sym, subst}
use Rattle.rule_spec.specs.Verdict.{Checked}
use Rattle.verdicts.proofs.RuleVerdicts.{rule_checked_by}
use Rattle.verdicts.proofs.check_rule.Goals as goal

pub returns : goal.returns
returns c =
    let s = c.args.rule.now in
    subst (λ a. Checked s a.number a.place) (sym c.rule_answer.ensures) (rule_checked_by s c.check.result c.check.ensures)
