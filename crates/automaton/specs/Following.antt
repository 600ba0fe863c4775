-- What follows what in the path P whose steps are numbered from b.
use Rattle.std.specs.Prelude.{ℕ, ◌+◌, ◌<◌, ◌≤◌, ◌≡◌, Bool, true, ◌⊎◌, ◌↔◌, List}
use Rattle.limits.specs.Limits.{positions}
use Rattle.bits.specs.Square.{cell}
use Rattle.xpath.specs.Syntax.{XPath, size}
use Rattle.positions.specs.Glushkov.{Next}
use Rattle.rule_parts.specs.Standing.{PathAt}

-- the relation after holds what it held before and what follows in P
pub record Related (P : XPath) (b : ℕ) (before after : List (List Bool)) : Type 0 where
  pub told : (i j : ℕ) → i < positions → j < positions → (cell after i j ≡ true) ↔ ((cell before i j ≡ true) ⊎ Next P b i j)

module _ (s : List ℕ) (at b : ℕ) where
  -- whatever path stands at the offset, what follows in it is added
  abbrev pub Relates : List (List Bool) → List (List Bool) → Type 0
  Relates before after = (P : XPath) (j : ℕ) → PathAt s P at j → b + size P ≤ positions → Related P b before after
