-- `document::check` meets its contract.
use mathlib.Core.Path.{◌≡◌}
use native.Mathlib.Omega.{arith}
use Rattle.std.specs.Prelude.{Some, None, Err}
use Rattle.std.proofs.lemmas.Grind.{common_steps}
use Rattle.lists.specs.Text.{bytes}
use Rattle.document_spec.proofs.Grounds.{first_long}
use Rattle.lexer.specs.Reading.{NumberedLine}
use Rattle.document.specs.declared.Refusal.TheVariants.{Form}
use Rattle.document.proofs.Walk.{no_count, bad_count, good_count}
use Rattle.document.proofs.check.Goals as goal
use Rattle.document.proofs.check.Goals.{In_ok-count}

pub returns-then-s-gt-MAX_BYTES : goal.returns-then-s-gt-MAX_BYTES
returns-then-s-gt-MAX_BYTES c = first_long _ c.if-s-gt-MAX_BYTES.true

pub returns-in_err-count : goal.returns-in_err-count
returns-in_err-count c =
    let e : c.number_line.result ≡ None = grind arith in
    let z : c.from_residual.result ≡ Err (Form 1) = grind arith in
    rw z (no_count c.args.s.now c.if-s-gt-MAX_BYTES.false (rw e at c.number_line.ensures))

-- the count line that was read
got : (c : In_ok-count) → NumberedLine (bytes "nodes=") 5 c.args.s.now 0 (Some c.in_ok-count.count)
got c = let e : c.number_line.result ≡ Some c.in_ok-count.count = grind arith in rw e at c.number_line.ensures

pub returns-then-not-contains : goal.returns-then-not-contains
returns-then-not-contains c = bad_count _ c.if-s-gt-MAX_BYTES.false _ _ (got (goal.at.returns-then-not-contains c).In_ok-count) (grind (arith, common_steps))

pub all_nodes-requires : goal.all_nodes-requires
all_nodes-requires c = good_count _ c.if-s-gt-MAX_BYTES.false _ _ (got (goal.at.all_nodes-requires c).In_ok-count) (grind (arith, common_steps)) (grind (arith, common_steps))
