-- Numerals read: the number that a run of digits makes, and the one that the bytes of a decimal numeral spell.
use Rattle.std.specs.Prelude.{ℕ, ◌+◌, ◌-◌, ◌*◌, List, [], ◌∷◌, map}

-- the number that a run of digits, the highest first, makes of the number read before it
abbrev pub value_from : ℕ → ℕ → List ℕ → ℕ
value_from base n [] = n
value_from base n (d ∷ ds) = value_from base (n * base + d) ds

abbrev pub value : ℕ → List ℕ → ℕ
value base ds = value_from base 0 ds

-- the number that the bytes of a numeral spell
abbrev pub reading : List ℕ → ℕ
reading s = value 10 (map (λ b. b - 48) s)
