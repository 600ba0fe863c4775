-- What the numbers of a scan owe each other, in each part of a numeral.
use Rattle.std.specs.Prelude.{ℕ, ◌+◌, ◌^◌, ◌≤◌, ◌<◌}
use Rattle.std.specs.Coded.{×_prop, Unit-prop, le_prop}
use Rattle.limits.specs.Limits.{numeral_digits, numeral_decimals}
use Rattle.numerals.specs.declared.scan.Part.{Part}
use Rattle.numerals.specs.declared.scan.Part.TheVariants.{Start, Whole, Decimals}

-- the digits so far are not too many, and the number is no longer than they are
abbrev pub FitsIn : Part → ℕ → ℕ → Type 0
FitsIn Start count number = Unit {0}
FitsIn Whole count number = (count ≤ numeral_digits) × (number < 10 ^ count)
FitsIn Decimals count number = (count ≤ numeral_decimals) × (number < 10 ^ (numeral_digits + count))

-- in one way only: a scan is told by its other fields
pub FitsIn-prop : (p : Part) (count number : ℕ) → IsProp (FitsIn p count number)
FitsIn-prop Start count number = Unit-prop
FitsIn-prop Whole count number = ×_prop le_prop le_prop
FitsIn-prop Decimals count number = ×_prop le_prop le_prop
