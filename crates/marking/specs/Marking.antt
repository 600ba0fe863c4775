-- The marks of the nodes at which a rule holds: test 0 is the rule itself.
use Rattle.std.specs.Prelude.{ℕ, ◌<◌, ◌≡◌, true, List, get_or}
use Rattle.lists.specs.Lists.{Number}
use Rattle.layout.specs.Words.{Kept}
use Rattle.bits.specs.Sets.{one}
use Rattle.test_bits.specs.Columns.{held}

-- the nodes at which test 0 holds by its bit
abbrev pub Told : List ℕ → ℕ → ℕ → Type 0
Told t n v = (v < n) × (held t n 0 v ≡ true)

-- the first n marks tell test 0, and r is how many of them are 1
pub record Marked (n : ℕ) (t before after : List ℕ) (r : ℕ) : Type 0 where
  -- a mark is 1 where the test holds, and else 0
  pub marked : (v : ℕ) → v < n → get_or after v 0 ≡ one (held t n 0 v)
  -- later marks are as before
  pub kept : Kept n before after
  pub count : Number (Told t n) r
