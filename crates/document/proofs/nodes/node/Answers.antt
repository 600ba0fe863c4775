-- `document::nodes::node` meets its contract.
use mathlib.Core.Path.{refl, subst, ◌≡◌}
use native.Mathlib.Omega.{arith}
use Rattle.std.specs.Prelude.{◌+◌, ◌*◌, Some, None, Err}
use Rattle.lists.specs.Text.{bytes}
use Rattle.lexer.specs.Reading.{NumberedLine}
use Rattle.document_lines.specs.Nodes.{Told, DepthRule}
use Rattle.document.specs.declared.Refusal.TheVariants.{Form}
use Rattle.document.specs.declared.nodes.Stop.TheVariants.{Refused}
use Rattle.document.proofs.Steps.{depth_form, depth_on, depth_tree}
use Rattle.document.proofs.nodes.node.Goals as goal
use Rattle.document.proofs.nodes.node.Goals.{In_ok-depth}

-- the line that was read
got : (c : In_ok-depth) → NumberedLine (bytes "depth=") 4 c.args.s.now c.args.here.at (Some c.in_ok-depth.depth)
got c = let e : c.number_line-line.result ≡ Some c.in_ok-depth.depth = grind arith in rw e at c.number_line-line.ensures

pub returns-in_err-depth : goal.returns-in_err-depth
returns-in_err-depth c =
    let e : c.number_line-line.result ≡ None = grind arith in
    let z : c.from_residual.result ≡ Err (Refused (Form (4 * c.args.here.node + 2))) = grind arith in
    record { stepped = λ n l a. rw z (depth_form a l (rw e at c.number_line-line.ensures)); long = refl }

pub returns-then-not-depth_fits-clause-stepped : goal.returns-then-not-depth_fits-clause-stepped
returns-then-not-depth_fits-clause-stepped c n l a =
    let x = c.args in
    depth_tree a l _ _ (got (goal.at.returns-then-not-depth_fits-clause-stepped c).In_ok-depth) (subst (Told (DepthRule x.here.node x.here.before _)) c.if-not-depth_fits.true c.depth_fits.ensures)

pub kind_step-requires-clause-standing : goal.kind_step-requires-clause-standing
kind_step-requires-clause-standing c =
    let (n, l, a) = c.requires.standing in
    let x = c.args in
    let kept = subst (Told (DepthRule x.here.node x.here.before _)) c.if-not-depth_fits.false c.depth_fits.ensures in
    (n, depth_on a l _ _ (got (goal.at.kind_step-requires-clause-standing c).In_ok-depth) kept)

pub returns-clause-stepped : goal.returns-clause-stepped
returns-clause-stepped c n l a =
    let x = c.args in
    let kept = subst (Told (DepthRule x.here.node x.here.before _)) c.if-not-depth_fits.false c.depth_fits.ensures in
    c.kind_step.ensures.stepped n (depth_on a l _ _ (got (goal.at.returns-clause-stepped c).In_ok-depth) kept)
