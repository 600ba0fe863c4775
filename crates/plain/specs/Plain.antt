-- What an evaluator of a comparison leaves.
use Rattle.std.specs.Prelude.{ℕ, ◌<◌, ◌≡◌, ◌⊎◌, List, length}
use Rattle.layout.specs.Part.{ANSWER}
use Rattle.layout.specs.Words.{word}

-- 1 where A holds, and else 0
pub record Answered (n : ℕ) (A : ℕ → Type 0) (p p' : List ℕ) : Type 0 where
  pub long : length p' ≡ length p
  pub answers : (v : ℕ) → v < n → (A v × (word p' n ANSWER v ≡ 1)) ⊎ ((¬ A v) × (word p' n ANSWER v ≡ 0))
