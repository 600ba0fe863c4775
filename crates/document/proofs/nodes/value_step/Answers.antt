-- `document::nodes::value_step` meets its contract.
use mathlib.Core.Path.{refl, subst, ◌≡◌}
use native.Mathlib.Omega.{arith}
use Rattle.std.specs.Prelude.{◌+◌, ◌*◌, Some, None, Err}
use Rattle.document.specs.declared.Refusal.TheVariants.{Form}
use Rattle.lexer.specs.Reading.{Ended}
use Rattle.document_lines.specs.Nodes.{Told, kind_of, IsValue}
use Rattle.document_spec.specs.Library.{ValueRule}
use Rattle.document.proofs.Steps.{value_form, value_length, value_on, value_tree}
use Rattle.document.proofs.nodes.value_step.Goals as goal
use Rattle.document.proofs.nodes.value_step.Goals.{In_ok-next}

-- the line that was read
got : (c : In_ok-next) → Ended IsValue c.args.s.now c.args.at (Some c.in_ok-next.next)
got c = let e : c.read_value.result ≡ Some c.in_ok-next.next = grind arith in rw e at c.read_value.ensures

pub returns-in_err-next : goal.returns-in_err-next
returns-in_err-next c =
    let e : c.read_value.result ≡ None = grind arith in
    let z : c.from_residual.result ≡ Err (Form (4 * c.args.v + 5)) = grind arith in
    rw z (λ n a. value_form a (rw e at c.read_value.ensures))

pub value_fits-requires : goal.value_fits-requires
value_fits-requires c = let h = (got (goal.at.value_fits-requires c).In_ok-next).2.inside in let s = c.requires.1.cursor.good.short in omega arith

pub returns-then-not-value_fits : goal.returns-then-not-value_fits
returns-then-not-value_fits c n a =
    let x = c.args in
    let g = got (goal.at.returns-then-not-value_fits c).In_ok-next in
    value_tree a _ g (subst (Told (ValueRule (kind_of x.node.kind) g.1.0)) c.if-not-value_fits.true (c.value_fits.ensures g.1.0 (value_length a _ g)))

pub returns : goal.returns
returns c n a =
    let x = c.args in
    let g = got (goal.at.returns c).In_ok-next in
    let l = value_length a _ g in
    (omega arith, refl, omega arith, value_on a _ g (subst (Told (ValueRule (kind_of x.node.kind) g.1.0)) c.if-not-value_fits.false (c.value_fits.ensures g.1.0 l)))
