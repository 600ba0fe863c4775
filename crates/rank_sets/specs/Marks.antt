-- The ranks where the first path ends, as marks.
use Rattle.std.specs.Prelude.{ℕ, ◌<◌, ◌≡◌, ◌⊎◌, List, [], ◌∷◌}
use Rattle.layout.specs.Part.{MARK}
use Rattle.layout.specs.Table.{RANK}
use Rattle.layout.specs.Words.{cell, word, Wrote}
use Rattle.rank_sets.specs.Ends.{Ended, Steady}

-- no rank is marked
abbrev pub Clear : ℕ → List ℕ → Type 0
Clear n p = (r : ℕ) → r < n → word p n MARK r ≡ 0

-- the rank of w is marked if the walk ends there
abbrev pub MarkedAt : ℕ → ℕ → ℕ → List ℕ → List ℕ → Type 0
MarkedAt n last w p p' =
    (Ended n last p w × Wrote ((cell n MARK (word p n RANK w), 1) ∷ []) p p') ⊎ ((¬ Ended n last p w) × (p' ≡ p))

-- the marked ranks are those of the nodes where the walk ends
pub record Marked (n last : ℕ) (p p' : List ℕ) : Type 0 where
  pub steady : Steady n p p'
  -- a marked rank is the rank of such a node
  pub sound : (r : ℕ) → r < n → word p' n MARK r ≡ 1 → (w : ℕ) × (w < n) × Ended n last p w × (word p n RANK w ≡ r)
  -- the rank of each such node is marked
  pub complete : (w : ℕ) → w < n → Ended n last p w → word p' n MARK (word p n RANK w) ≡ 1
