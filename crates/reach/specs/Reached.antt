-- What the work list finds.
use Rattle.std.specs.Prelude.{ℕ, ◌<◌, ◌≡◌, ◌↔◌, true, List}
use Rattle.limits.specs.Limits.{positions}
use Rattle.bits.specs.Sets.{bit}
use Rattle.layout.specs.Part.{SEEN, NODES}
use Rattle.layout.specs.Words.{word}
use Rattle.machine.specs.declared.Machine.{Machine}
use Rattle.machine.specs.Walks.{Walk}
use Rattle.reach.specs.Work.{Spared}

-- the column says what i at v comes to, and the other columns of single words are as they were
pub record Reached (m : Machine) (n i v : ℕ) (p p' : List ℕ) : Type 0 where
  pub spared : Spared n NODES p p'
  pub seen : (j w : ℕ) → j < positions → w < n → (bit (word p' n SEEN w) j ≡ true) ↔ Walk m n p i v j w
