-- The ends in D of a position at a skeleton node: at the node itself, below it, and above it.
use Rattle.std.specs.Prelude.{ℕ, Bool, List}
use Rattle.xpath.specs.Syntax.{XPath}
use Rattle.xpath.specs.Tree.{Tree, Child, Under}
use Rattle.positions.specs.Positions.{Comes, Ends}
use Rattle.snippets.specs.Snippets.{Has, Edge}

module _ (t : Tree) (P R : XPath) (d : List ℕ) where
  -- q at y ends at a node of D that is y or below it
  abbrev pub In : ℕ → ℕ → Type 0
  In y q = (w : ℕ) × Has t d w × Under t y w × Ends P R t q y w

  -- p at x ends at a node of D that is neither y nor below y
  abbrev pub Out : ℕ → ℕ → ℕ → Type 0
  Out x y p = (w : ℕ) × Has t d w × (¬ Under t y w) × Ends P R t p x w

  -- p at x ends at a node of D that is neither x nor below x
  abbrev pub Above : ℕ → ℕ → Type 0
  Above x p = Out x x p

  -- p at x ends at x, which is in D
  abbrev pub Own : ℕ → ℕ → Type 0
  Own x p = Has t d x × Ends P R t p x x

  -- p at x comes to the next skeleton node y under x's child on a side, in a position that ends at or below y
  pub record FromChild (side : Bool) (x p : ℕ) : Type 0 where
    pub child : ℕ
    pub y : ℕ
    pub n : ℕ
    pub q : ℕ
    pub is : Child t side x child
    pub under : Under t child y
    pub edge : Edge t d x y n
    pub comes : Comes P R t p x q y
    pub inside : In y q
