-- Paths where they stand in the rule, with no more steps than are numbered.
use Rattle.std.specs.Prelude.{ℕ, ◌+◌, ◌≤◌, ◌≡◌, List, Option, Some, None}
use Rattle.limits.specs.Limits.{positions, comparison_steps}
use Rattle.xpath.specs.Syntax.{XPath, empty, size}
use Rattle.rule_parts.specs.Standing.{PathAt}

module _ (s : List ℕ) (at b : ℕ) where
  -- a path stands at the offset, and its numbers are positions
  abbrev pub Room : Type 0
  Room = (P : XPath) × (j : ℕ) × PathAt s P at j × (b + size P ≤ positions)

-- the second path of a comparison stands at the offset; without one it is empty
abbrev pub SecondAt : List ℕ → XPath → Option ℕ → Type 0
SecondAt s R (Some behind) = (k : ℕ) × PathAt s R behind k
SecondAt s R None = R ≡ empty

module _ (s : List ℕ) (at : ℕ) (behind : Option ℕ) where
  -- P stands at the first offset and R at the second, and their steps are not too many for a comparison
  pub record PathsAt (P R : XPath) : Type 0 where
    pub end : ℕ
    pub first : PathAt s P at end
    pub second : SecondAt s R behind
    pub few : size P + size R ≤ comparison_steps

  -- some two paths
  abbrev pub TwoPaths : Type 0
  TwoPaths = (P R : XPath) × PathsAt P R
