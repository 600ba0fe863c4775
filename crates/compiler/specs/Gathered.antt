-- Sets that are gathered position by position, and the bytes that the steps of a rule begin with.
use Rattle.std.specs.Prelude.{ℕ, ◌≤◌, ◌<◌, ◌≡◌, true, ◌↔◌, List, length, get_or}
use Rattle.limits.specs.Limits.{positions}
use Rattle.bits.specs.Sets.{bit}

-- w is the set of the positions below n of which B holds
pub record Gathered (B : ℕ → Type 0) (n w : ℕ) : Type 0 where
  pub told : (j : ℕ) → (bit w j ≡ true) ↔ ((j < n) × B j)

module _ (s places : List ℕ) where
  -- the places of the steps 1 to n are offsets of the rule
  pub record Inside (n : ℕ) : Type 0 where
    pub few : n < positions
    pub within : (i : ℕ) → 0 < i → i ≤ n → get_or places i 0 < length s

  -- step i begins with a byte
  abbrev pub Begins : ℕ → ℕ → Type 0
  Begins byte i = (0 < i) × (get_or s (get_or places i 0) 0 ≡ byte)
