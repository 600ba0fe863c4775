-- `test_numbers::bracket_tests` meets its contract.
use native.Mathlib.Omega.{arith}
use Rattle.test_numbers.proofs.Bracketing.{first_numbered, second_numbered, two_told, alone_told}
use Rattle.test_numbers.proofs.bracket_tests.Goals as goal

pub number-p-requires : goal.number-p-requires
number-p-requires c = (first_numbered _ _ _ c.requires, omega arith)

pub number-requires : goal.number-requires
number-requires c = let n = c.number-p.auto.numbers in (second_numbered _ _ _ c.in-Some.is c.requires c.number-p.ensures, omega arith)

pub returns-in-Some : goal.returns-in-Some
returns-in-Some c = two_told _ _ _ c.in-Some.is c.number-p.ensures c.number.ensures

pub returns-in_default : goal.returns-in_default
returns-in_default c = alone_told _ _ _ c.in_default.is c.number-p.ensures
