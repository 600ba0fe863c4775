-- The levels of the tree in a comparison's part.
use Rattle.std.specs.Prelude.{ℕ, suc, ◌≤◌, ◌<◌, List}
use Rattle.xpath.specs.Tree.{Tree, Down}
use Rattle.layout.specs.Words.{Within}
use Rattle.machine.specs.Shape.{Shape}
use Rattle.layout.specs.Groups.{LEVEL}

-- every way down the tree has fewer than r edges, and there are r nodes at least; no other column has changed
pub record Levelled (n : ℕ) (p p' : List ℕ) (r : ℕ) : Type 0 where
  pub within : Within n LEVEL (suc LEVEL) p p'
  pub some : 0 < r
  pub few : r ≤ n
  pub ways : (t : Tree) → Shape t n p → (x y l : ℕ) → Down t x y l → l < r
