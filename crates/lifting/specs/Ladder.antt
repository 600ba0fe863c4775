-- Along a stretch of the tree, from a node y up to the node x that lies some edges above it.
use Rattle.std.specs.Prelude.{ℕ, ◌+◌, ◌-◌, ◌*◌, ◌^◌, ◌≤◌, ◌<◌, ◌≡◌, true, List, length, get_or}
use Rattle.limits.specs.Limits.{document_nodes, positions, node_digits, comparison_steps, words_per_digit}
use Rattle.bits.specs.Sets.{bit}
use Rattle.xpath.specs.Syntax.{XPath, size}
use Rattle.xpath.specs.Tree.{Tree, WellFormed, Down}
use Rattle.positions.specs.Positions.{Comes}
use Rattle.matrices.specs.Matrices.{Exactly}
use Rattle.loops.specs.Loops.{Loops}
use Rattle.layout.specs.Blocks.{BLOCKS, upper_at}
use Rattle.powers.specs.Powers.{Powers}

-- the loops and the powers below b of two paths on a tree
pub record Ladder (P R : XPath) (t : Tree) (n b : ℕ) (p : List ℕ) : Type 0 where
  pub formed : WellFormed t
  pub few : size P + size R ≤ comparison_steps
  pub loops : Loops P R t n p
  pub powers : Powers P R t n p b

-- some node lies len edges above y, and the powers below b lead there
pub record Stretch (n b y len : ℕ) (p : List ℕ) : Type 0 where
  pub first : XPath
  pub second : XPath
  pub tree : Tree
  pub top : ℕ
  pub ladder : Ladder first second tree n b p
  pub down : Down tree top y len
  pub node : y < n
  pub few : n ≤ document_nodes
  pub low : b ≤ node_digits
  pub short : len < 2 ^ b
  pub room : (BLOCKS + words_per_digit * b) * n ≤ length p

-- by a power k to the node over y, with the rest still to go
pub record Hops (n y len k over rest : ℕ) (p : List ℕ) : Type 0 where
  pub some : 2 ^ k ≤ len
  pub there : over ≡ get_or p (upper_at n k y) 0
  pub left : rest ≡ len - 2 ^ k

-- the positions that at x come to a member of S at y
abbrev pub Lifts : XPath → XPath → Tree → ℕ → ℕ → ℕ → ℕ → Type 0
Lifts P R t x y S r = Exactly r (λ i. (j : ℕ) × (j < positions) × (bit S j ≡ true) × Comes P R t i x j y)
