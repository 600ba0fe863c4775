-- What is written for an exponent and a node.
use Rattle.std.specs.Prelude.{ℕ, ◌+◌, ◌*◌, ◌≤◌, ◌<◌, ◌≡◌, ◌↔◌, List, length, get_or}
use Rattle.limits.specs.Limits.{document_nodes, positions, node_digits, comparison_steps, words_per_digit}
use Rattle.xpath.specs.Syntax.{XPath, size}
use Rattle.xpath.specs.Tree.{Tree, WellFormed}
use Rattle.matrices.specs.Matrices.{Related, Composed}
use Rattle.machine.specs.declared.Machine.{Machine}
use Rattle.detours.specs.Visits.{Steps}
use Rattle.layout.specs.Blocks.{BLOCKS, block_at, down_at, up_at, upper_at}
use Rattle.layout.specs.Part.{loop_at}
use Rattle.layout.specs.Words.{Frame}
use Rattle.powers.specs.Powers.{Power, Powers, Ready}

-- the part has room for the blocks of n nodes and all exponents below b
pub record BlockRoom (n b : ℕ) (p : List ℕ) : Type 0 where
  pub few : n ≤ document_nodes
  pub low : b ≤ node_digits
  pub room : (BLOCKS + words_per_digit * b) * n ≤ length p

-- there is room for the words of exponent k and node y
pub record Fits (n k y : ℕ) (p : List ℕ) : Type 0 where
  pub node : y < n
  pub few : n ≤ document_nodes
  pub low : k < node_digits
  pub room : block_at n k y + words_per_digit ≤ length p

-- only the 64 words of exponent k and node y may be different
abbrev pub Only : ℕ → ℕ → ℕ → List ℕ → List ℕ → Type 0
Only n k y p p' = Frame (block_at n k y) (block_at n k y + words_per_digit) p p'

-- by the matrix at a, then by a step of w, and then by the matrix at b
abbrev pub Crossed : List ℕ → List ℕ → ℕ → ℕ → ℕ → ℕ → ℕ → Type 0
Crossed rows p a w b = Composed (Related p a) (Composed (Steps rows w) (Related p b))

-- the upper node is x, and the two matrices are those of A and B
pub record Block (n k y x : ℕ) (A B : ℕ → ℕ → Type 0) (p p' : List ℕ) : Type 0 where
  pub only : Only n k y p p'
  pub upper : get_or p' (upper_at n k y) 0 ≡ x
  pub down : (i j : ℕ) → i < positions → j < positions → Related p' (down_at n k y) i j ↔ A i j
  pub up : (i j : ℕ) → i < positions → j < positions → Related p' (up_at n k y) i j ↔ B i j

-- by a machine's step between two nodes, whose loops stand in the part
abbrev pub Edge : Machine → ℕ → ℕ → ℕ → ℕ → ℕ → List ℕ → List ℕ → Type 0
Edge m n x y down up p = Block n 0 y x (Crossed m.rows p (loop_at n x) down (loop_at n y)) (Crossed m.rows p (loop_at n y) up (loop_at n x)) p

-- by two powers k, from y to h and from h on
abbrev pub Twice : ℕ → ℕ → ℕ → ℕ → List ℕ → List ℕ → Type 0
Twice n k h y p = Block n (k + 1) y (get_or p (upper_at n k h) 0) (Composed (Related p (down_at n k h)) (Related p (down_at n k y))) (Composed (Related p (up_at n k y)) (Related p (up_at n k h))) p

-- power k + 1 of y is found, by powers k
pub record Doubled (n k y : ℕ) (p p' : List ℕ) : Type 0 where
  pub only : Only n (k + 1) y p p'
  pub power : (P R : XPath) (t : Tree) → WellFormed t → size P + size R ≤ comparison_steps → Powers P R t n p (k + 1) → Power P R t n p' (k + 1) y

-- power k of y is found, by the powers below k
pub record Found (m : Machine) (n k y : ℕ) (p p' : List ℕ) : Type 0 where
  pub only : Only n k y p p'
  pub power : (P R : XPath) (t : Tree) → Ready P R t m n p → Powers P R t n p k → Power P R t n p' k y

-- power k of all nodes below y is found, by the powers below k
pub record Passed (m : Machine) (n k y : ℕ) (p p' : List ℕ) : Type 0 where
  pub frame : Frame (block_at n k 0) (block_at n k y) p p'
  pub power : (P R : XPath) (t : Tree) → Ready P R t m n p → Powers P R t n p k → (v : ℕ) → v < y → Power P R t n p' k v
