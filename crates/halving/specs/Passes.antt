-- One pass of halving: what the snippets of exponent k + 1 hand down to exponent k, read off the words alone.
use Rattle.std.specs.Prelude.{ℕ, suc, ◌+◌, ◌<◌, ◌≡◌, ◌≢◌, ◌⊎◌, ◌↔◌, List, get_or}
use Rattle.limits.specs.Limits.{positions}
use Rattle.matrices.specs.Matrices.{Related, Image, Before}
use Rattle.layout.specs.Blocks.{down_at, up_at, snippet_at, upper_at}
use Rattle.layout.specs.Words.{Same}

-- The matrix at `source` holds the snippets that are halved: from a position at the upper node to one at the lower node.
-- (i, j) belongs to the upper half: j comes down, by the matrix at `down`, to a position that i has at the lower node
abbrev pub Upper : List ℕ → ℕ → ℕ → ℕ → ℕ → Type 0
Upper p source down i j = Before p down (get_or p (source + i) 0) j

-- (i, j) belongs to the lower half: i comes up, by the matrix at `up`, to a position that has j at the lower node
abbrev pub Lower : List ℕ → ℕ → ℕ → ℕ → ℕ → Type 0
Lower p source up i j = Image p source (get_or p (up + i) 0) j

-- the relation at `at`, and N too
abbrev pub With : List ℕ → ℕ → (ℕ → ℕ → Type 0) → ℕ → ℕ → Type 0
With p at N i j = Related p at i j ⊎ N i j

module _ (n k : ℕ) where
  -- the node 2^k above y: the middle of a snippet of power k + 1
  abbrev pub middle : List ℕ → ℕ → ℕ
  middle p y = get_or p (upper_at n k y) 0

  -- the snippets of power k + 1 with the lower node y hand (i, j) down to the lower node z: the upper half to the middle, and the lower half to y
  pub data Hands (p : List ℕ) (y z i j : ℕ) : Type 0 where
    upper : middle p y ≡ z → Upper p (snippet_at n (suc k) y) (down_at n k y) i j → Hands p y z i j
    lower : middle p y < n → y ≡ z → Lower p (snippet_at n (suc k) y) (up_at n k (middle p y)) i j → Hands p y z i j

  -- no word of a snippet of power k
  abbrev pub Elsewhere : ℕ → Type 0
  Elsewhere l = (z i : ℕ) → z < n → i < positions → l ≢ snippet_at n k z + i

  -- the snippets of power k have N added, and all other words are as before
  pub record Grown (N : ℕ → ℕ → ℕ → Type 0) (p p' : List ℕ) : Type 0 where
    pub same : Same Elsewhere p p'
    pub rows : (z i j : ℕ) → z < n → i < positions → j < positions → Related p' (snippet_at n k z) i j ↔ (Related p (snippet_at n k z) i j ⊎ N z i j)

  -- what the nodes below m hand down
  abbrev pub Handed : List ℕ → ℕ → ℕ → ℕ → ℕ → Type 0
  Handed p m z i j = (y : ℕ) × (y < m) × Hands p y z i j
