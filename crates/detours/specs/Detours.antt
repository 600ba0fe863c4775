-- Steps over words alone: those down to a child and up from it, on either side, and the detours over a neighbour that they make.
use Rattle.std.specs.Prelude.{ℕ, ◌<◌, ◌≡◌, ◌≢◌, Bool, true, false, List, get_or}
use Rattle.limits.specs.Limits.{positions}
use Rattle.bits.specs.Sets.{bit}
use Rattle.layout.specs.Table.{LEFT, PARENT}
use Rattle.layout.specs.Words.{word}
use Rattle.matrices.specs.Matrices.{Related}
use Rattle.machine.specs.declared.Machine.{Machine}

-- the steps down to a child on a side, and the steps up from it
abbrev pub downs : Machine → Bool → ℕ
downs m true = m.left
downs m false = m.right

abbrev pub ups : Machine → Bool → ℕ
ups m true = m.leftup
ups m false = m.rightup

-- the side of its parent that a node is on: right where it is not the left child
abbrev pub OnSide : List ℕ → ℕ → ℕ → Bool → Type 0
OnSide p n v true = word p n LEFT (word p n PARENT v) ≡ v
OnSide p n v false = word p n LEFT (word p n PARENT v) ≢ v

-- j follows i and is one of the steps w
pub record Goes (m : Machine) (w i j : ℕ) : Type 0 where
  pub follows : bit (get_or m.rows i 0) j ≡ true
  pub step : bit w j ≡ true

-- by a step of w, by the matrix at an offset, and by a step of w', i comes to j
pub record Detour (m : Machine) (p : List ℕ) (at w w' i j : ℕ) : Type 0 where
  pub first : ℕ
  pub last : ℕ
  pub first_few : first < positions
  pub last_few : last < positions
  pub leave : Goes m w i first
  pub within : Related p at first last
  pub back : Goes m w' last j
