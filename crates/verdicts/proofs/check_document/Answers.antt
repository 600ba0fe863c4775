-- `verdicts::check_document` meets its contract.
use mathlib.Core.Path.{sym, subst}
use Rattle.document_spec.specs.Verdict.{Checked}
use Rattle.verdicts.proofs.Verdicts.{checked_by}
use Rattle.verdicts.proofs.check_document.Goals as goal

pub returns : goal.returns
returns c =
    let s = c.args.document.now in
    subst (λ a. Checked s a.number a.place a.nodes) (sym c.document_answer.ensures) (checked_by s c.check.result c.check.ensures)
