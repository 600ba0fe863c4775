-- Blanks at the ends of a byte string: 02 (b).
--   blank      the byte 0x20
--   Blanks     no other byte
--   Bare       no blank at either end
--   trim_start  without the blanks in front
--   trim_end    without the blanks at the end
--   trim       without both
use Rattle.std.specs.Prelude.{ℕ, ◌≡◌, true, false, ◌⊎◌, ◌≢◌, List, [], ◌∷◌, ◌++◌, reverse, eqb}
use Rattle.lists.specs.Lists.{All}

abbrev pub blank : ℕ
blank = 0x20

abbrev pub Blanks : List ℕ → Type 0
Blanks bs = All (λ b. b ≡ blank) bs

-- neither the first byte nor the last is a blank
abbrev pub Bare : List ℕ → Type 0
Bare bs = (b : ℕ) (cs : List ℕ) → (bs ≡ b ∷ cs) ⊎ (bs ≡ cs ++ b ∷ []) → b ≢ blank

unfoldable pub trim_start : List ℕ → List ℕ
trim_start [] = []
trim_start (b ∷ bs) = elim (eqb b blank) [ true ↦ trim_start bs | false ↦ b ∷ bs ]

unfoldable pub trim_end : List ℕ → List ℕ
trim_end bs = reverse (trim_start (reverse bs))

-- 02: blanks alone make the empty value
unfoldable pub trim : List ℕ → List ℕ
trim bs = trim_end (trim_start bs)
