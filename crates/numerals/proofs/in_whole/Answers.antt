-- `numerals::in_whole` meets its contract.
use mathlib.Core.Path.{sym, ◌∙◌}
use mathlib.Core.Logic.{inl, inr}
use native.Mathlib.Omega.{arith}
use Rattle.numerals.proofs.Scans.{number_small, part_fits, whole_fits, whole_more, whole_full, whole_point, whole_lost}
use Rattle.numerals.proofs.in_whole.Goals as goal
use Rattle.numerals.proofs.in_whole.Goals.{else-b-eq46-via-then-b-eq46+else-c-gt0, else-b-eq46-via-else-b-eq46}

pub more-requires : goal.more-requires
more-requires c =
    let a = c.args.c in let f = part_fits a c.requires in let d = sym c.is_digit.ensures ∙ c.if-is_digit.true in
    (d, omega arith, number_small _ _ f.1 (omega arith), whole_fits a c.args.b f d c.if-c-lt-MAX_DIGITS.true)

pub returns-then-c-lt-MAX_DIGITS : goal.returns-then-c-lt-MAX_DIGITS
returns-then-c-lt-MAX_DIGITS c =
    whole_more c.args.c c.args.b c.more.ensures
    (sym c.is_digit.ensures ∙ c.if-is_digit.true) c.if-c-lt-MAX_DIGITS.true

pub returns-then-is_digit : goal.returns-then-is_digit
returns-then-is_digit c =
    whole_full c.args.c c.args.b
    (sym c.is_digit.ensures ∙ c.if-is_digit.true) c.if-c-lt-MAX_DIGITS.false

pub returns-then-c-gt0 : goal.returns-then-c-gt0
returns-then-c-gt0 c =
    whole_point c.args.c c.args.b
    (sym c.is_digit.ensures ∙ c.if-is_digit.false) c.if-b-eq46.true c.if-c-gt0.true

pub returns : goal.returns
returns c =
    whole_lost c.args.c c.args.b (sym c.is_digit.ensures ∙ c.if-is_digit.false)
    (elim c.else-b-eq46.branch [ else-b-eq46-via-then-b-eq46+else-c-gt0 w ↦ inr (omega arith) | else-b-eq46-via-else-b-eq46 w ↦ inl w.if-b-eq46.false ])
