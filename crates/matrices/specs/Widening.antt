-- How a matrix grows row by row: what is added, and what is not changed.
use Rattle.std.specs.Prelude.{ℕ, suc, ◌+◌, ◌≤◌, ◌≡◌, List, get_or}
use Rattle.limits.specs.Limits.{positions}
use Rattle.bits.specs.Sets.{bit, or, size}
use Rattle.layout.specs.Words.{Frame}
use Rattle.matrices.specs.Matrices.{Drawing, pairs}

-- the members of w are added to one word; r is 1 if one of them is new, and else 0
pub record Joined (at w : ℕ) (p p' : List ℕ) (r : ℕ) : Type 0 where
  pub frame : Frame at (suc at) p p'
  pub here : (j : ℕ) → bit (get_or p' at 0) j ≡ or (bit (get_or p at 0) j) (bit w j)
  pub small : r ≤ 1
  pub count : r + size positions (get_or p at 0) ≤ size positions (get_or p' at 0)
  pub still : r ≡ 0 → p' ≡ p

-- the first k rows get the relation A; r of them are larger than before
pub record Widening (A : ℕ → ℕ → Type 0) (at k : ℕ) (p p' : List ℕ) (r : ℕ) : Type 0 where
  pub drawn : Drawing A at k p p'
  pub small : r ≤ k
  pub count : r + pairs p at k ≤ pairs p' at k
  pub still : r ≡ 0 → p' ≡ p
