-- Numerals and their amounts: 02 (f).
--   signed     with a minus in front, or without
--   pointed    decimals with a point in front, or nothing where there are none
--   Amount     an integer, in ten-thousandths
--   HasAmount  a byte string is a numeral, and this is its amount
--   Below      one amount is less than another
--   AtMost     or the same
use Rattle.std.specs.Prelude.{ℕ, ◌+◌, ◌-◌, ◌*◌, ◌^◌, ◌≤◌, ◌<◌, ◌≡◌, Bool, true, false, List, [], ◌∷◌, ◌++◌, length}
use Rattle.lists.specs.Lists.{All}
use Rattle.lists.specs.Text.{Digit}
use Rattle.lists.specs.Numerals.{reading}
use Rattle.limits.specs.Limits.{numeral_digits, numeral_decimals}

-- ── Numerals ──
-- 45 is the minus, and 46 the point
abbrev pub signed : Bool → List ℕ → List ℕ
signed true bs = 45 ∷ bs
signed false bs = bs

abbrev pub pointed : List ℕ → List ℕ
pointed [] = []
pointed (d ∷ ds) = 46 ∷ d ∷ ds

-- so many ten-thousandths above 0, or so many below it: -0 is 0
pub record Amount : Type 0 where
  pub above : ℕ
  pub below : ℕ

abbrev pub amount : Bool → ℕ → Amount
amount true m = record { above = 0; below = m }
amount false m = record { above = m; below = 0 }

-- an optional minus, 1 to 9 digits, and optionally a point with 1 to 4 digits; all digits together are the amount in the unit of the last of them
pub record HasAmount (bs : List ℕ) (a : Amount) : Type 0 where
  pub minus : Bool
  pub whole : List ℕ
  pub decimals : List ℕ
  pub spelled : bs ≡ signed minus (whole ++ pointed decimals)
  pub whole_digits : All Digit whole
  pub decimal_digits : All Digit decimals
  pub some : 1 ≤ length whole
  pub few : length whole ≤ numeral_digits
  pub fine : length decimals ≤ numeral_decimals
  pub exact : a ≡ amount minus (reading (whole ++ decimals) * 10 ^ (numeral_decimals - length decimals))

-- ── Their order: what is above 0, less what is below it ──
abbrev pub Below : Amount → Amount → Type 0
Below a b = a.above + b.below < b.above + a.below

abbrev pub AtMost : Amount → Amount → Type 0
AtMost a b = a.above + b.below ≤ b.above + a.below
