-- The closure of a relation on positions, and the steps to it.
use Rattle.std.specs.Prelude.{ℕ, ◌<◌, ◌≡◌, ◌⊎◌}
use Rattle.limits.specs.Limits.{positions}

-- zero or more times
pub data Chain (A : ℕ → ℕ → Type 0) : ℕ → ℕ → Type 0 where
  none : {i : ℕ} → Chain A i i
  more : {i j k : ℕ} → j < positions → A i j → Chain A j k → Chain A i k

-- with itself, too
abbrev pub Reflexive : (ℕ → ℕ → Type 0) → ℕ → ℕ → Type 0
Reflexive A i j = (i ≡ j) ⊎ A i j

-- by way of k, too
abbrev pub Through : (ℕ → ℕ → Type 0) → ℕ → ℕ → ℕ → Type 0
Through A k i j = A i j ⊎ (A i k × A k j)
