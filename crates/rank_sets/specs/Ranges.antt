-- The least and the greatest rank where a path ends, and what they say of the signs.
use Rattle.std.specs.Prelude.{ℕ, suc, ◌+◌, ◌≤◌, ◌<◌, ◌≡◌, ◌⊎◌}
use Rattle.rule_parts.specs.declared.kinds.Operator.{Operator}
use Rattle.rule_parts.specs.declared.kinds.Operator.TheVariants.{Equal, Unequal, Less, LessEqual, Greater, GreaterEqual}
use Rattle.layout.specs.Words.{NONE}
use Rattle.rank_sets.specs.declared.ranges.Range.{Range}

-- a node below n that E holds of
abbrev pub Some : ℕ → (ℕ → Type 0) → (ℕ → Type 0) → Type 0
Some n E B = (w : ℕ) × (w < n) × E w × B w

-- E holds of w, and w has one of n ranks
abbrev pub WithRank : ℕ → (ℕ → ℕ) → (ℕ → Type 0) → ℕ → Type 0
WithRank n rank E w = E w × (rank w < n)

-- the range of the ranks of the nodes below n that E holds of
pub record Ranged (n : ℕ) (E : ℕ → Type 0) (rank : ℕ → ℕ) (a : Range) : Type 0 where
  -- none is less, and one is the least, if there is any
  pub low : (w : ℕ) → w < n → E w → a.least ≤ rank w
  pub least : (a.least ≡ NONE) ⊎ Some n E (λ w. rank w ≡ a.least)
  -- none is as great, and one is the last below, if there is any
  pub high : (w : ℕ) → w < n → E w → rank w < a.above
  pub greatest : (a.above ≡ 0) ⊎ Some n E (λ w. suc (rank w) ≡ a.above)

-- some rank of the first range is less than some rank of the second
abbrev pub Under : Range → Range → Type 0
Under a b = a.least + 1 < b.above

-- a sign between some rank of the one and some rank of the other; ranges tell nothing of equal ranks
abbrev pub Across : Operator → Range → Range → Type 0
Across Equal a b = ⊥
Across Unequal a b = Under a b ⊎ Under b a
Across Less a b = Under a b
Across LessEqual a b = a.least < b.above
Across Greater a b = Under b a
Across GreaterEqual a b = b.least < a.above
