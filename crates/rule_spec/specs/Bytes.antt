-- Tests that compute: choices, and the bytes of names, constants and numbers.
use Rattle.std.specs.Prelude.{ℕ, Bool, true, false, eqb, leb}

abbrev pub choose {ℓ} : {A : Type ℓ} → Bool → A → A → A
choose true a b = a
choose false a b = b

abbrev pub both : Bool → Bool → Bool
both a b = choose a b false

abbrev pub either : Bool → Bool → Bool
either a b = choose a true b

abbrev pub between : ℕ → ℕ → ℕ → Bool
between low high b = both (leb low b) (leb b high)

unfoldable pub is_letter : ℕ → Bool
is_letter b = between 97 122 b

unfoldable pub is_name_byte : ℕ → Bool
is_name_byte b = either (between 97 122 b) (either (between 48 57 b) (eqb b 45))

unfoldable pub is_digit : ℕ → Bool
is_digit b = between 48 57 b

unfoldable pub is_printable : ℕ → Bool
is_printable b = between 0x20 0x7e b
