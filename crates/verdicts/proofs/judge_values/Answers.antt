-- `verdicts::judge_values` meets its contract.
use mathlib.Core.Path.{refl, subst}
use Rattle.verdicts.specs.Judging.{Equates, HasNodes, JudgesValues}
use Rattle.verdicts.proofs.Judging.{positive, handed_on}
use Rattle.verdicts.proofs.JudgingValues.{values_texts, values_other, values_buffers, values_node, values_none}
use Rattle.verdicts.proofs.judge_values.Goals as goal

pub returns-in_err-nodes : goal.returns-in_err-nodes
returns-in_err-nodes c =
    let a = c.args in
    handed_on (JudgesValues a.document.now a.rule.now a.values.now a.words a.marks) _ _ c.from_residual.ensures.1
    (values_texts c.in_err-nodes.ensures (positive c.in_err-nodes.field-0.0))

pub returns-then-not-equality : goal.returns-then-not-equality
returns-then-not-equality c =
    values_other c.in_ok-nodes.ensures refl (λ T a. subst (Equates T) c.if-not-equality.true (c.is_equality-equality.ensures T a))

pub returns-in_err-lent : goal.returns-in_err-lent
returns-in_err-lent c =
    let a = c.args in
    handed_on (JudgesValues a.document.now a.rule.now a.values.now a.words a.marks) _ _ c.from_residual-in_err-lent.ensures.1
    (values_buffers c.in_ok-nodes.ensures refl (λ T a. subst (Equates T) c.if-not-equality.false (c.is_equality-equality.ensures T a)) c.in_err-lent.ensures (positive c.in_err-lent.field-0.0))

pub returns-then-not-listed : goal.returns-then-not-listed
returns-then-not-listed c =
    values_node c.in_ok-nodes.ensures refl
    (λ T a. subst (Equates T) c.if-not-equality.false (c.is_equality-equality.ensures T a)) c.in_ok-lent.ensures refl
    (subst (HasNodes c.args.values.now c.in_ok-nodes.nodes) c.if-not-listed.true c.has_nodes-listed.ensures)

pub returns : goal.returns
returns c =
    values_none c.in_ok-nodes.ensures refl
    (λ T a. subst (Equates T) c.if-not-equality.false (c.is_equality-equality.ensures T a)) c.in_ok-lent.ensures refl
    (subst (HasNodes c.args.values.now c.in_ok-nodes.nodes) c.if-not-listed.false c.has_nodes-listed.ensures)
