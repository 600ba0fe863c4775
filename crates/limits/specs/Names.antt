-- Labels and names.
use Rattle.std.specs.Prelude.{ℕ, ◌≤◌, List, [], ◌∷◌, length}
use Rattle.lists.specs.Lists.{All}
use Rattle.lists.specs.Text.{Letter, NameByte}
use Rattle.limits.specs.Limits.{label_bytes}

-- 01: S is 1 to 16 bytes of a-z, 0-9 and hyphen, the first a letter; a rule's names are spelled as S
unfoldable pub Name : List ℕ → Type 0
Name [] = ⊥
Name (b ∷ bs) = Letter b × All NameByte bs × (length (b ∷ bs) ≤ label_bytes)
