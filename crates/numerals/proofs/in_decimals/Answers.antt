-- `numerals::in_decimals` meets its contract.
use mathlib.Core.Path.{sym, ◌∙◌}
use mathlib.Core.Logic.{inl, inr}
use native.Mathlib.Omega.{arith}
use Rattle.numerals.proofs.Scans.{number_small, part_fits, decimals_fit, decimals_more, decimals_lost}
use Rattle.numerals.proofs.in_decimals.Goals as goal
use Rattle.numerals.proofs.in_decimals.Goals.{else-is_digit-via-then-is_digit+else-c-lt-MAX_DECIMALS, else-is_digit-via-else-is_digit}

pub more-requires : goal.more-requires
more-requires c =
    let a = c.args.c in let f = part_fits a c.requires in let d = sym c.is_digit.ensures ∙ c.if-is_digit.true in
    (d, omega arith, number_small _ _ f.1 (omega arith), decimals_fit a c.args.b f d c.if-c-lt-MAX_DECIMALS.true)

pub returns-then-c-lt-MAX_DECIMALS : goal.returns-then-c-lt-MAX_DECIMALS
returns-then-c-lt-MAX_DECIMALS c =
    decimals_more c.args.c c.args.b c.more.ensures
    (sym c.is_digit.ensures ∙ c.if-is_digit.true) c.if-c-lt-MAX_DECIMALS.true

pub returns : goal.returns
returns c =
    decimals_lost c.args.c c.args.b
    (elim c.else-is_digit.branch [
      | else-is_digit-via-then-is_digit+else-c-lt-MAX_DECIMALS w ↦ inr w.if-c-lt-MAX_DECIMALS.false
      | else-is_digit-via-else-is_digit w ↦ inl (sym c.is_digit.ensures ∙ w.if-is_digit.false)
    ])
