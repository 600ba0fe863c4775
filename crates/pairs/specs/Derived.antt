-- The pairs as words: a matrix for each node, and what the words of the loops, of the edges and of the snippets of power 0 put into it.
use Rattle.std.specs.Prelude.{ℕ, ◌<◌, ◌≡◌, ◌⊎◌, Bool, true, false, List}
use Rattle.limits.specs.Limits.{positions}
use Rattle.layout.specs.Blocks.{down_at, up_at, snippet_at}
use Rattle.layout.specs.Part.{loop_at}
use Rattle.layout.specs.Table.{PARENT}
use Rattle.layout.specs.Words.{word}
use Rattle.matrices.specs.Matrices.{Related, Before}

-- the matrix at an offset, from row to column or back
abbrev pub Turned : Bool → List ℕ → ℕ → ℕ → ℕ → Type 0
Turned false p at i j = Related p at i j
Turned true p at i j = Related p at j i

-- a and b are related to a pair that A holds of: a by the matrix at `from`, b by the one at `to`
pub record Over (A : ℕ → ℕ → Type 0) (p : List ℕ) (from to a b : ℕ) : Type 0 where
  pub first : ℕ
  pub second : ℕ
  pub first_few : first < positions
  pub second_few : second < positions
  pub left : Related p from a first
  pub pair : A first second
  pub right : Related p to b second

-- a and b are related to a pair of the matrix at `by`: one of them by the matrix at `up` to its first, and the other by the one at `down` to its second
abbrev pub MeetsBy : List ℕ → ℕ → ℕ → ℕ → ℕ → ℕ → Type 0
MeetsBy p by up down a b = Over (Turned false p by) p up down a b ⊎ Over (Turned true p by) p down up a b

module _ (n : ℕ) (p : List ℕ) where
  -- v is an end of the edge between y and its parent: from v the matrix at `up` leads to the parent, and the one at `down` to y
  abbrev pub Sees : ℕ → ℕ → ℕ → ℕ → Type 0
  Sees y v up down =
      ((v ≡ word p n PARENT y) × (up ≡ loop_at n v) × (down ≡ down_at n 0 y))
      ⊎ ((v ≡ y) × (up ≡ up_at n 0 y) × (down ≡ loop_at n y))

  -- the matrix at `at` leads over that edge from v to u
  abbrev pub LeadsOver : ℕ → ℕ → ℕ → ℕ → Type 0
  LeadsOver y v u at =
      ((v ≡ word p n PARENT y) × (u ≡ y) × (at ≡ down_at n 0 y))
      ⊎ ((v ≡ y) × (u ≡ word p n PARENT y) × (at ≡ up_at n 0 y))

  module _ (last : ℕ) where
    -- a and b end at v
    abbrev pub EndsAt : ℕ → ℕ → ℕ → Type 0
    EndsAt v a b = Before p (loop_at n v) last a × Before p (loop_at n v) last b

    -- the pairs that the words tell
    pub data Derived : ℕ → ℕ → ℕ → Type 0 where
      -- both end at v
      ended : {v a b : ℕ} → v < n → a < positions → b < positions → EndsAt v a b → Derived v a b
      -- they meet a snippet of the edge that v sees
      met : {v a b : ℕ} (y up down : ℕ) → v < n → 0 < y → y < n → a < positions → b < positions → Sees y v up down → MeetsBy p (snippet_at n 0 y) up down a b → Derived v a b
      -- they come over an edge to a pair of its other end
      led : {v u a b i j : ℕ} (y at : ℕ) → 0 < y → y < n → a < positions → b < positions → i < positions → j < positions → LeadsOver y v u at
          → Related p at a i → Related p at b j → Derived u i j → Derived v a b
