-- The nodes of a value's D and all above them are marked.
use Rattle.std.specs.Prelude.{ℕ, List}
use Rattle.xpath.specs.Tree.{Tree, Under}
use Rattle.snippets.specs.Snippets.{Has}

module _ (t : Tree) (d : List ℕ) where
  -- x has a node of D at or below it
  abbrev pub Marked : ℕ → Type 0
  Marked x = (w : ℕ) × Has t d w × Under t x w
