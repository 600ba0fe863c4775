-- What stands in the part before the snippets of an equality.
use Rattle.std.specs.Prelude.{ℕ, ◌<◌, List}
use Rattle.xpath.specs.Tree.{Tree}
use Rattle.layout.specs.Groups.{LEVEL}
use Rattle.layout.specs.Table.{COLUMNS}
use Rattle.layout.specs.Words.{Within}
use Rattle.machine.specs.Shape.{Shape}
use Rattle.powers.specs.Blocks.{BlockRoom}
use Rattle.buckets.specs.Buckets.{Buckets}
use Rattle.group_ends.specs.Ends.{Enough}

-- b powers of two are enough for the ways of the tree, and the nodes of each value are linked; what is drawn stays
pub record Powered (n b : ℕ) (p p' : List ℕ) : Type 0 where
  pub within : Within n LEVEL COLUMNS p p'
  pub some : 0 < b
  pub enough : (t : Tree) → Shape t n p' → Enough t b
  pub room : BlockRoom n b p'
  pub buckets : Buckets n p'
