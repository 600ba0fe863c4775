-- The words of the scratch. A column has one word for each of n nodes: word v of column c stands at c × n + v.
--   Wrote ws t t'     some words were written, and all others are as before
--   Frame a b t t'    only words from a up to b may have changed: the frame of a change
--   Within n c d      the same, for the columns from c up to d
--   Kept m            the same, for the words below m
--   Filled n c x v    x stands in column c of the nodes below v, and no other column has changed
--   Same K t t'       the words of which K holds are as before: the frame of a change that is no stretch of words
use Rattle.std.specs.Prelude.{ℕ, suc, ◌+◌, ◌*◌, ◌-◌, ◌≤◌, ◌<◌, ◌≡◌, ◌≢◌, List, length, get_or}
use Rattle.limits.specs.Limits.{word_values}
use Rattle.lists.specs.Lists.{All}

-- the word that stands for none: no node, or no rank
abbrev pub NONE : ℕ
NONE = word_values - 1

abbrev pub cell : ℕ → ℕ → ℕ → ℕ
cell n c v = c * n + v

abbrev pub word : List ℕ → ℕ → ℕ → ℕ → ℕ
word t n c v = get_or t (cell n c v) 0

-- each of ws is a place and the word that stands there now
pub record Wrote (ws : List (ℕ × ℕ)) (before after : List ℕ) : Type 0 where
  pub long : length after ≡ length before
  pub here : All (λ w. get_or after w.0 0 ≡ w.1) ws
  pub other : (k : ℕ) → All (λ w. k ≢ w.0) ws → get_or after k 0 ≡ get_or before k 0

-- b is not among the words that may have changed
pub record Frame (a b : ℕ) (before after : List ℕ) : Type 0 where
  pub long : length after ≡ length before
  pub front : (k : ℕ) → k < a → get_or after k 0 ≡ get_or before k 0
  pub behind : (k : ℕ) → b ≤ k → get_or after k 0 ≡ get_or before k 0

-- nor is the column d; a record of its own, so that the columns can be told from its type
pub record Within (n c d : ℕ) (before after : List ℕ) : Type 0 where
  pub long : length after ≡ length before
  pub front : (k : ℕ) → k < c * n → get_or after k 0 ≡ get_or before k 0
  pub behind : (k : ℕ) → d * n ≤ k → get_or after k 0 ≡ get_or before k 0

-- what a frame says, of any words; all others may have changed
pub record Same (K : ℕ → Type 0) (before after : List ℕ) : Type 0 where
  pub long : length after ≡ length before
  pub same : (k : ℕ) → K k → get_or after k 0 ≡ get_or before k 0

abbrev pub Kept : ℕ → List ℕ → List ℕ → Type 0
Kept m before after = Frame 0 m before after

pub record Filled (n c x v : ℕ) (before after : List ℕ) : Type 0 where
  pub inside : v ≤ n
  pub within : Within n c (suc c) before after
  pub filled : (u : ℕ) → u < v → word after n c u ≡ x
