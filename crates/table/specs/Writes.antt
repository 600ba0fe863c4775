-- What is written for a node v: its own words, and the link to it from its parent.
use Rattle.std.specs.Prelude.{ℕ, ◌-◌, ◌/◌, ◌%◌, Bool, List, [], ◌∷◌}
use Rattle.limits.specs.Limits.{word_values}
use Rattle.document_spec.specs.Binary.{pick}
use Rattle.layout.specs.Table.{LOW, HIGH, LEFT, RIGHT, PARENT, LAST, column}
use Rattle.layout.specs.Words.{NONE, cell, word}

abbrev pub placed : ℕ → ℕ → ℕ → List (ℕ × ℕ)
placed n v at = (cell n HIGH v, at / word_values) ∷ (cell n LOW v, at % word_values) ∷ []

-- node v at an offset, of depth d, with the parent u
abbrev pub entered : ℕ → ℕ → ℕ → ℕ → ℕ → List (ℕ × ℕ)
entered n v at d u = (cell n LAST d, v) ∷ (cell n PARENT v, u) ∷ (cell n RIGHT v, NONE) ∷ (cell n LEFT v, NONE) ∷ placed n v at

-- the same, and v is u's child on a side
abbrev pub hung : ℕ → ℕ → ℕ → ℕ → Bool → ℕ → List (ℕ × ℕ)
hung n v at d side u = (cell n (column side) u, v) ∷ entered n v at d u

-- a left child's parent is the node before it, a right child's the last node of its depth
abbrev pub parent_by : List ℕ → ℕ → ℕ → ℕ → Bool → ℕ
parent_by t n v d side = pick side (v - 1) (word t n LAST d)
