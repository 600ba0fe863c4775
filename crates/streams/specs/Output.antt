-- The marked nodes, rising: 01, the program.
use Rattle.std.specs.Prelude.{ℕ, ◌≤◌, ◌<◌, ◌≡◌, List, length, get_or}

abbrev pub Marked : List ℕ → ℕ → Type 0
Marked marks v = get_or marks v 0 ≡ 1

-- the first marked node at or behind a node, or the end of the marks: "node= follows for each marked node, rising"
pub record NextMarked (marks : List ℕ) (from r : ℕ) : Type 0 where
  pub inside : r ≤ length marks
  pub marked : r < length marks → (from ≤ r) × Marked marks r
  pub first : (v : ℕ) → from ≤ v → v < r → ¬ Marked marks v
