-- The powers of two along the tree: for each node y and exponent k the node 2^k above it, and which positions come to which between the two.
use Rattle.std.specs.Prelude.{ℕ, ◌*◌, ◌^◌, ◌<◌, ◌↔◌, List, get_or}
use Rattle.limits.specs.Limits.{positions}
use Rattle.xpath.specs.Syntax.{XPath}
use Rattle.xpath.specs.Tree.{Tree, Down}
use Rattle.positions.specs.Positions.{Comes}
use Rattle.table.specs.Links.{Points}
use Rattle.matrices.specs.Matrices.{Related}
use Rattle.machine.specs.declared.Machine.{Machine}
use Rattle.loops.specs.Loops.{Stage, Loops}
use Rattle.layout.specs.Blocks.{BLOCKS, block_at, down_at, up_at, upper_at}
use Rattle.layout.specs.Words.{Frame}

module _ (P R : XPath) (t : Tree) (n : ℕ) (p : List ℕ) where
  -- the words of exponent k and node y
  pub record Power (k y : ℕ) : Type 0 where
    pub upper : Points (λ x. Down t x y (2 ^ k)) (get_or p (upper_at n k y) 0)
    pub down : (x i j : ℕ) → Down t x y (2 ^ k) → i < positions → j < positions → Related p (down_at n k y) i j ↔ Comes P R t i x j y
    pub up : (x i j : ℕ) → Down t x y (2 ^ k) → i < positions → j < positions → Related p (up_at n k y) i j ↔ Comes P R t i y j x

  -- all exponents below b
  abbrev pub Powers : ℕ → Type 0
  Powers b = (k y : ℕ) → k < b → y < n → Power k y

-- a comparison of two paths on a tree, with its loops
pub record Ready (P R : XPath) (t : Tree) (m : Machine) (n : ℕ) (p : List ℕ) : Type 0 where
  pub stage : Stage P R t m n p
  pub loops : Loops P R t n p

-- with its loops and its powers
pub record Founded (P R : XPath) (t : Tree) (m : Machine) (n b : ℕ) (p : List ℕ) : Type 0 where
  pub stage : Stage P R t m n p
  pub loops : Loops P R t n p
  pub powers : Powers P R t n p b

-- all words but those of the exponents below b are as before
pub record Powered (P R : XPath) (t : Tree) (n b : ℕ) (p p' : List ℕ) : Type 0 where
  pub frame : Frame (BLOCKS * n) (block_at n b 0) p p'
  pub powers : Powers P R t n p' b
