-- Relations on positions as 16 words of a list, one behind the other: row i is the set of what i is related to.
use Rattle.std.specs.Prelude.{ℕ, zero, suc, ◌+◌, ◌≤◌, ◌<◌, ◌≡◌, ◌⊎◌, ◌↔◌, true, List, get_or}
use Rattle.limits.specs.Limits.{positions}
use Rattle.bits.specs.Sets.{bit, size}
use Rattle.layout.specs.Words.{Frame}

-- the 16 positions that are members of w are those that A holds of
abbrev pub Exactly : ℕ → (ℕ → Type 0) → Type 0
Exactly w A = (i : ℕ) → i < positions → (bit w i ≡ true) ↔ A i

-- i is related to j, by the matrix that stands at an offset
abbrev pub Related : List ℕ → ℕ → ℕ → ℕ → Type 0
Related p at i j = bit (get_or p (at + i) 0) j ≡ true

-- j is related to by a member of w
abbrev pub Image : List ℕ → ℕ → ℕ → ℕ → Type 0
Image p at w j = (i : ℕ) × (i < positions) × (bit w i ≡ true) × Related p at i j

-- i is related to a member of w
abbrev pub Before : List ℕ → ℕ → ℕ → ℕ → Type 0
Before p at w i = (j : ℕ) × (j < positions) × (bit w j ≡ true) × Related p at i j

-- only the 16 words from an offset on may be different
abbrev pub Redrawn : ℕ → List ℕ → List ℕ → Type 0
Redrawn at p p' = Frame at (at + positions) p p'

-- two matrices have no word in common
abbrev pub Apart : ℕ → ℕ → Type 0
Apart a c = (a + positions ≤ c) ⊎ (c + positions ≤ a)

-- how many pairs the first k rows have
unfoldable pub pairs : List ℕ → ℕ → ℕ → ℕ
pairs p at zero = 0
pairs p at (suc k) = pairs p at k + size positions (get_or p (at + k) 0)

-- the first k rows of a matrix become those of the relation A, and all other words are as before
pub record Drawing (A : ℕ → ℕ → Type 0) (at k : ℕ) (p p' : List ℕ) : Type 0 where
  pub frame : Frame at (at + k) p p'
  pub done : (i j : ℕ) → i < k → j < positions → Related p' at i j ↔ A i j

-- by one and then the other
abbrev pub Composed : (ℕ → ℕ → Type 0) → (ℕ → ℕ → Type 0) → ℕ → ℕ → Type 0
Composed A B i j = (k : ℕ) × (k < positions) × A i k × B k j
