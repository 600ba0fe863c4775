-- Where a walk ends, and what a test at one node leaves as it was.
use Rattle.std.specs.Prelude.{ℕ, ◌*◌, ◌≤◌, ◌<◌, ◌≡◌, true, List}
use Rattle.bits.specs.Sets.{bit}
use Rattle.layout.specs.Part.{SEEN}
use Rattle.layout.specs.Table.{LEFT}
use Rattle.layout.specs.Words.{word, Same}

-- the walk that the part has seen comes to w at one of the last positions
pub record Ended (n last : ℕ) (p : List ℕ) (w : ℕ) : Type 0 where
  pub position : ℕ
  pub among : bit last position ≡ true
  pub seen : bit (word p n SEEN w) position ≡ true

-- the links, the ranks, the bracketed tests and the hits are as they were
pub record Held (n : ℕ) (p p' : List ℕ) : Type 0 where
  pub middle : Same (λ k. (LEFT * n ≤ k) × (k < SEEN * n)) p p'

-- the answers are so too
pub record Steady (n : ℕ) (p p' : List ℕ) : Type 0 where
  pub held : Held n p p'
  pub answers : Same (λ k. k < n) p p'
