-- What the readers of tests and paths ask of who calls them.
use Rattle.std.specs.Prelude.{ℕ, suc, ◌≤◌, List, length}
use Rattle.limits.specs.Limits.{rule_nesting}
use Rattle.tokens.specs.Readers.{Stands}

module _ (s : List ℕ) where
  -- a part of nesting n may stand at i, behind which no more than i steps lie
  pub record Due (i n k : ℕ) : Type 0 where
    pub inside : i ≤ length s
    pub nested : n ≤ suc rule_nesting
    pub few : k ≤ i

  -- a comparison or a count of nesting n opens at i with the byte b
  pub record Opened (b i n k : ℕ) : Type 0 where
    pub opens : Stands s i b
    pub nested : n ≤ rule_nesting
    pub few : k ≤ i
