-- A relation on positions as a list of rows.
use Rattle.std.specs.Prelude.{Bool, false, List, [], ℕ, get_or}

-- j follows i
abbrev pub cell : List (List Bool) → ℕ → ℕ → Bool
cell f i j = get_or (get_or f i []) j false
