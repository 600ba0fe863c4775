-- `verdicts::judge` meets its contract.
use mathlib.Core.Path.{refl}
use Rattle.verdicts.specs.Judging.{Judges}
use Rattle.verdicts.proofs.Judging.{positive, handed_on, needed_told, by_texts, by_buffers}
use Rattle.verdicts.proofs.judge.Goals as goal

pub returns-in_err-nodes : goal.returns-in_err-nodes
returns-in_err-nodes c =
    let a = c.args in
    handed_on (Judges a.document.now a.rule.now a.words a.marks) _ _ c.from_residual.ensures.1 (by_texts c.in_err-nodes.ensures (positive c.in_err-nodes.field-0.0))

pub judge_buffers-requires : goal.judge_buffers-requires
judge_buffers-requires c = needed_told c.in_ok-nodes.ensures refl

pub returns : goal.returns
returns c = by_buffers c.in_ok-nodes.ensures refl c.judge_buffers.ensures
