-- `document::nodes::label_step` meets its contract.
use mathlib.Core.Path.{refl, subst, ◌≡◌}
use native.Mathlib.Omega.{arith}
use Rattle.std.specs.Prelude.{ℕ, ◌+◌, ◌*◌, Some, None, Err}
use Rattle.lexer.specs.Reading.{Ended}
use Rattle.document_spec.specs.Library.{LabelRule}
use Rattle.document_lines.specs.Nodes.{Told, kind_of, IsLabel}
use Rattle.document.specs.Check.{AtLabel, AtValue}
use Rattle.document.specs.declared.Refusal.TheVariants.{Form}
use Rattle.document.specs.declared.nodes.Stop.TheVariants.{Refused}
use Rattle.document.proofs.Steps.{label_form, label_spelled, label_enterable, label_on, label_reached, label_twice, label_tree}
use Rattle.document.proofs.nodes.label_step.Goals as goal
use Rattle.document.proofs.nodes.label_step.Goals.{In_ok-end, In-Ok}

-- the line that was read
got : (c : In_ok-end) → Ended IsLabel c.args.s.now c.args.at (Some c.in_ok-end.end)
got c = let e : c.read_label.result ≡ Some c.in_ok-end.end = grind arith in rw e at c.read_label.ensures

pub returns-in_err-end : goal.returns-in_err-end
returns-in_err-end c =
    let e : c.read_label.result ≡ None = grind arith in
    let z : c.from_residual.result ≡ Err (Refused (Form (4 * c.args.v + 4))) = grind arith in
    record { stepped = λ n a. rw z (label_form a (rw e at c.read_label.ensures)); long = refl }

pub returns-then-not-label_fits-clause-stepped : goal.returns-then-not-label_fits-clause-stepped
returns-then-not-label_fits-clause-stepped c n a =
    let line = got (goal.at.returns-then-not-label_fits-clause-stepped c).In_ok-end in
    label_tree a _ line (subst (Told (LabelRule (kind_of c.args.node.kind) line.1.0)) c.if-not-label_fits.true (c.label_fits.ensures line.1.0 _ line.1.1 (label_spelled a _ line)))

pub enter-requires : goal.enter-requires
enter-requires c =
    let (n, a) = c.requires.standing in
    let h = a.cursor.good.short in
    let i = a.cursor.inside in
    (label_enterable a _ (got (goal.at.enter-requires c).In_ok-end), h, omega arith, c.requires.room)

-- the line is good, and the label is entered
on : (c : In-Ok) (n : ℕ) → AtLabel c.args.s.now c.args.words.now n c.args.v c.args.node c.args.at → AtValue c.args.s.now n c.args.v c.args.node c.in_ok-end.end
on c n a =
    let line = got (goal.at.In-Ok c).In_ok-end in
    label_on a _ line _ (rw c.in-Ok.is at c.enter.ensures.entered)
    (subst (Told (LabelRule (kind_of c.args.node.kind) line.1.0)) c.if-not-label_fits.false (c.label_fits.ensures line.1.0 _ line.1.1 (label_spelled a _ line)))

pub value_step-requires : goal.value_step-requires
value_step-requires c = let (n, a) = c.requires.standing in (n, on (goal.at.value_step-requires c).In-Ok n a)

pub returns-in_err-value_step-in-Ok-clause-stepped : goal.returns-in_err-value_step-in-Ok-clause-stepped
returns-in_err-value_step-in-Ok-clause-stepped c n a =
    let z : c.from_residual-in_err-value_step-in-Ok.result ≡ Err (Refused c.in_err-value_step-in-Ok.field-0.0) = grind arith in
    rw z (c.in_err-value_step-in-Ok.ensures n (on (goal.at.returns-in_err-value_step-in-Ok-clause-stepped c).In-Ok n a))

pub returns-in_ok-value_step-in-Ok-clause-stepped : goal.returns-in_ok-value_step-in-Ok-clause-stepped
returns-in_ok-value_step-in-Ok-clause-stepped c n a =
    label_reached a _ (got (goal.at.returns-in_ok-value_step-in-Ok-clause-stepped c).In_ok-end) _ (rw c.in-Ok.is at c.enter.ensures.entered) _
    (c.in_ok-value_step-in-Ok.ensures n (on (goal.at.returns-in_ok-value_step-in-Ok-clause-stepped c).In-Ok n a))

pub returns-in-Err-Twice-clause-stepped : goal.returns-in-Err-Twice-clause-stepped
returns-in-Err-Twice-clause-stepped c n a = label_twice a _ (got (goal.at.returns-in-Err-Twice-clause-stepped c).In_ok-end) _ (rw c.in-Err-Twice.field-0-is at c.in-Err-Twice.ensures.entered)
