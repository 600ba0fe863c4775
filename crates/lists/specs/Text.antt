-- Byte strings: quoted text, the bytes that names and values may have, numerals.
use Rattle.std.specs.Prelude.{ℕ, zero, suc, ◌+◌, ◌/◌, ◌%◌, ◌≤◌, ◌⊎◌, true, false, ◌≡◌, List, [], ◌∷◌, ◌++◌, map, length, ltb}
use Prim.Native.Char.{code}
use Prim.Native.String.{String}

-- the bytes of a quoted text
abbrev pub bytes : String → List ℕ
bytes String.[] = []
bytes (String.◌∷◌ c s) = code c ∷ bytes s

-- 01, the library document: bytes from 0x20 to 0x7E
abbrev pub Printable : ℕ → Type 0
Printable b = (0x20 ≤ b) × (b ≤ 0x7e)

-- a-z
abbrev pub Letter : ℕ → Type 0
Letter b = (97 ≤ b) × (b ≤ 122)

-- 0-9
abbrev pub Digit : ℕ → Type 0
Digit b = (48 ≤ b) × (b ≤ 57)

-- a-z, 0-9 and hyphen
abbrev pub NameByte : ℕ → Type 0
NameByte b = Letter b ⊎ Digit b ⊎ (b ≡ 45)

-- the digits of n in a base, the highest first; the fuel n is enough
unfoldable pub digits_by : ℕ → ℕ → ℕ → List ℕ
digits_by base zero n = n ∷ []
digits_by base (suc fuel) n = elim (ltb n base) [ true ↦ n ∷ [] | false ↦ digits_by base fuel (n / base) ++ n % base ∷ [] ]

unfoldable pub digits : ℕ → ℕ → List ℕ
unfolding digits_by
digits base n = digits_by base n n

-- 01: base ten, no leading zero except in 0 itself
unfoldable pub decimal : ℕ → List ℕ
unfolding digits
decimal n = map (λ d. 48 + d) (digits 10 n)

-- 01, buffers: the number of binary digits
unfoldable pub binary_digits : ℕ → ℕ
unfolding digits
binary_digits n = length (digits 2 n)
