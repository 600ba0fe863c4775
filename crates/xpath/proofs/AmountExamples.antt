-- Amounts of numerals by example, computed together: those that 02 (f) speaks of, its limits, and strings that are no numerals.
use Prim.Native.Nat.{ℕ}
use mathlib.Core.Path.{◌≡◌, refl}
use mathlib.Core.Bool.{true, false}
use mathlib.Core.Option.{Option, none, some}
use mathlib.Core.List.{[], ◌∷◌, map}
use Rattle.lists.specs.Text.{bytes}
use Rattle.xpath.specs.Amounts.{Amount, amount}
use Rattle.xpath.specs.Reading.{amount_of, whole_from, decimals_from}

abbrev plus : ℕ → Option Amount
plus m = some (amount false m)

abbrev minus : ℕ → Option Amount
minus m = some (amount true m)

-- 9 is less than 10, leading zeros are allowed, and -0 is 0
pub ordered_by_number : map (λ t. amount_of (bytes t)) ("9" ∷ "10" ∷ "00012" ∷ "0" ∷ "-0" ∷ "-0.0000" ∷ []) ≡ plus 90_000 ∷ plus 100_000 ∷ plus 120_000 ∷ plus 0 ∷ plus 0 ∷ plus 0 ∷ []
unfolding amount_of whole_from decimals_from
ordered_by_number = refl

-- as many decimals as one likes, up to four
pub equal_amounts : map (λ t. amount_of (bytes t)) ("1.5" ∷ "1.50" ∷ "01.500" ∷ "1.5000" ∷ []) ≡ plus 15_000 ∷ plus 15_000 ∷ plus 15_000 ∷ plus 15_000 ∷ []
unfolding amount_of whole_from decimals_from
equal_amounts = refl

-- the greatest and the least of all amounts, and the least above 0
pub farthest : map (λ t. amount_of (bytes t)) ("999999999.9999" ∷ "-999999999.9999" ∷ "000000000.0001" ∷ "-2.25" ∷ []) ≡ plus 9_999_999_999_999 ∷ minus 9_999_999_999_999 ∷ plus 1 ∷ minus 22_500 ∷ []
unfolding amount_of whole_from decimals_from
farthest = refl

-- ten digits, five decimals, no digit on one side of the point, two points, signs, blanks, words and nothing
pub no_numerals : map (λ t. amount_of (bytes t)) ("" ∷ "-" ∷ "1234567890" ∷ "1.00000" ∷ ".5" ∷ "1." ∷ "-.5" ∷ "1.2.3" ∷ "+1" ∷ "--1" ∷ "1-" ∷ " 1" ∷ "1 " ∷ "1e3" ∷ "heparin" ∷ []) ≡ none ∷ none ∷ none ∷ none ∷ none ∷ none ∷ none ∷ none ∷ none ∷ none ∷ none ∷ none ∷ none ∷ none ∷ none ∷ []
unfolding amount_of whole_from decimals_from
no_numerals = refl
