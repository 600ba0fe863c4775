-- The key of each node's amount, in three columns.
use Rattle.std.specs.Prelude.{ℕ, ◌+◌, ◌*◌, ◌/◌, ◌%◌, ◌<◌, ◌≡◌, List, [], ◌∷◌}
use Rattle.limits.specs.Limits.{word_values}
use Rattle.layout.specs.Ranking.{KEY_LOW, KEY_MIDDLE, KEY_HIGH}
use Rattle.layout.specs.Words.{cell, word}

-- the key in the columns of node v
abbrev pub key_in : List ℕ → ℕ → ℕ → ℕ
key_in t n v = word t n KEY_LOW v + word_values * (word t n KEY_MIDDLE v + word_values * word t n KEY_HIGH v)

-- what is written for it
abbrev pub keyed : ℕ → ℕ → ℕ → List (ℕ × ℕ)
keyed n v k =
    (cell n KEY_HIGH v, k / word_values / word_values)
    ∷ (cell n KEY_MIDDLE v, k / word_values % word_values)
    ∷ (cell n KEY_LOW v, k % word_values)
    ∷ []

-- the columns hold the keys of all nodes
abbrev pub Keys : ℕ → (ℕ → ℕ) → List ℕ → Type 0
Keys n key t = (v : ℕ) → v < n → key_in t n v ≡ key v
