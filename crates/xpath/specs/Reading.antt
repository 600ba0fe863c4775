-- The amount of a byte string, read from its first byte to its last, if it has one. Nothing is promised by it: `amount_iff` (proofs/Amounts) says that it is the amount of the definition.
use Rattle.std.specs.Prelude.{ℕ, suc, ◌+◌, ◌-◌, ◌*◌, ◌^◌, Bool, true, false, List, [], ◌∷◌, ltb, eqb}
use Rattle.std.proofs.Math.Option.{Option, none, some}
use Rattle.limits.specs.Limits.{numeral_digits, numeral_decimals}
use Rattle.xpath.specs.Booleans.{both}
use Rattle.xpath.specs.Amounts.{Amount, amount}

abbrev pub given : {A : Type 0} → Bool → Option A → Option A
given true x = x
given false x = none

abbrev pub is_digit : ℕ → Bool
is_digit b = both (ltb 47 b) (ltb b 58)

-- k decimals are read, and m is the number that all digits so far make
unfoldable pub decimals_from : ℕ → ℕ → List ℕ → Option ℕ
decimals_from k m [] = given (ltb 0 k) (some (m * 10 ^ (numeral_decimals - k)))
decimals_from k m (b ∷ bs) = given (both (is_digit b) (ltb k numeral_decimals)) (decimals_from (suc k) (m * 10 + (b - 48)) bs)

-- k digits are read, and no point yet
unfoldable pub whole_from : ℕ → ℕ → List ℕ → Option ℕ
whole_from k m [] = given (ltb 0 k) (some (m * 10 ^ numeral_decimals))
whole_from k m (b ∷ bs) =
    elim (is_digit b) [
      | true ↦ given (ltb k numeral_digits) (whole_from (suc k) (m * 10 + (b - 48)) bs)
      | false ↦ given (both (eqb b 46) (ltb 0 k)) (decimals_from 0 m bs)
    ]

abbrev pub with_sign : Bool → Option ℕ → Option Amount
with_sign minus none = none
with_sign minus (some m) = some (amount minus m)

unfoldable pub amount_of : List ℕ → Option Amount
amount_of [] = none
amount_of (b ∷ bs) = elim (eqb b 45) [ true ↦ with_sign true (whole_from 0 0 bs) | false ↦ with_sign false (whole_from 0 0 (b ∷ bs)) ]
