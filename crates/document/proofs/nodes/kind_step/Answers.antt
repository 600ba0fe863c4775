-- `document::nodes::kind_step` meets its contract.
use mathlib.Core.Path.{subst, ◌≡◌}
use native.Mathlib.Omega.{arith}
use Rattle.std.specs.Prelude.{◌+◌, ◌*◌, Some, None, Err}
use Rattle.document_lines.specs.Nodes.{Told, KindRule, KindRead}
use Rattle.document.specs.declared.Refusal.TheVariants.{Form}
use Rattle.document.specs.declared.nodes.Stop.TheVariants.{Refused}
use Rattle.document.proofs.Steps.{kind_form, kind_on, kind_behind, kind_tree}
use Rattle.document.proofs.nodes.kind_step.Goals as goal
use Rattle.document.proofs.nodes.kind_step.Goals.{In_ok-kind}

-- the line that was read
got : (c : In_ok-kind) → KindRead c.args.s.now c.args.at (Some (c.in_ok-kind.kind, c.in_ok-kind.j))
got c = let e : c.read_kind.result ≡ Some (c.in_ok-kind.kind, c.in_ok-kind.j) = grind arith in rw e at c.read_kind.ensures

pub returns-in_err-kind-clause-stepped : goal.returns-in_err-kind-clause-stepped
returns-in_err-kind-clause-stepped c n a =
    let e : c.read_kind.result ≡ None = grind arith in
    let z : c.from_residual.result ≡ Err (Refused (Form (4 * c.args.here.node + 3))) = grind arith in
    rw z (kind_form a (rw e at c.read_kind.ensures))

pub returns-then-not-kind_fits-clause-stepped : goal.returns-then-not-kind_fits-clause-stepped
returns-then-not-kind_fits-clause-stepped c n a =
    let x = c.args in
    kind_tree a _ _ (got (goal.at.returns-then-not-kind_fits-clause-stepped c).In_ok-kind) (subst (Told (KindRule x.here.node x.here.before x.d _)) c.if-not-kind_fits.true c.kind_fits.ensures)

pub label_step-requires-clause-standing : goal.label_step-requires-clause-standing
label_step-requires-clause-standing c =
    let (n, a) = c.requires.standing in
    let x = c.args in
    let kept = subst (Told (KindRule x.here.node x.here.before x.d _)) c.if-not-kind_fits.false c.kind_fits.ensures in
    (n, kind_on a _ _ (got (goal.at.label_step-requires-clause-standing c).In_ok-kind) c.begin_labels.ensures.opened kept)

pub returns-clause-stepped : goal.returns-clause-stepped
returns-clause-stepped c n a =
    let x = c.args in
    let line = got (goal.at.returns-clause-stepped c).In_ok-kind in
    let opened = c.begin_labels.ensures.opened in
    let kept = subst (Told (KindRule x.here.node x.here.before x.d _)) c.if-not-kind_fits.false c.kind_fits.ensures in
    kind_behind a _ _ line c.begin_labels.new.words c.label_step.new.words opened c.label_step.result (c.label_step.ensures.stepped n (kind_on a _ _ line opened kept))
