-- The blocks at the end of a comparison's part: so many words for each exponent and node.
use Rattle.std.specs.Prelude.{ℕ, ◌+◌, ◌*◌, ◌≤◌, ◌<◌, ◌⊎◌, ◌≢◌, List}
use Rattle.limits.specs.Limits.{positions, words_per_digit, part_words}
use Rattle.layout.specs.Table.{COLUMNS}
use Rattle.layout.specs.Words.{Same}

abbrev pub BLOCKS : ℕ
BLOCKS = part_words

abbrev pub block_at : ℕ → ℕ → ℕ → ℕ
block_at n k y = BLOCKS * n + words_per_digit * (k * n + y)

-- a position at the upper node and one at y
abbrev pub down_at : ℕ → ℕ → ℕ → ℕ
down_at n k y = block_at n k y

-- a position at y and one at the upper node
abbrev pub up_at : ℕ → ℕ → ℕ → ℕ
up_at n k y = block_at n k y + positions

-- the snippets of power k whose lower node is y: p at the upper node and q at y
abbrev pub snippet_at : ℕ → ℕ → ℕ → ℕ
snippet_at n k y = block_at n k y + 2 * positions

-- l is no word of the snippets of the powers below b
abbrev pub Aside : ℕ → ℕ → ℕ → Type 0
Aside n b l = (k y i : ℕ) → k < b → y < n → i < positions → l ≢ snippet_at n k y + i

-- only the columns from c on and the snippets' rows may be different
pub record Rest (c n b : ℕ) (p p' : List ℕ) : Type 0 where
  pub same : Same (λ k. (k < c * n) ⊎ ((COLUMNS * n ≤ k) × Aside n b k)) p p'

-- the upper node, or none
abbrev pub upper_at : ℕ → ℕ → ℕ → ℕ
upper_at n k y = block_at n k y + 3 * positions

-- where the snippets of a block stand, the blocks counted one behind the other
abbrev pub rows_at : ℕ → ℕ → ℕ
rows_at n l = BLOCKS * n + words_per_digit * l + 2 * positions
