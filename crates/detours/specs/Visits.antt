-- What the matrix of one node becomes: at the start, and by a visit.
use Rattle.std.specs.Prelude.{ℕ, ◌+◌, ◌*◌, ◌≤◌, ◌<◌, ◌≡◌, ◌⊎◌, ◌↔◌, true, List, length, get_or}
use Rattle.limits.specs.Limits.{document_nodes, positions}
use Rattle.bits.specs.Sets.{bit}
use Rattle.layout.specs.Part.{STAYS, PAIRS, loop_at}
use Rattle.layout.specs.Table.{PARENT}
use Rattle.layout.specs.Words.{word}
use Rattle.matrices.specs.Matrices.{Related, Redrawn, pairs}
use Rattle.closures.specs.Closures.{Chain}
use Rattle.machine.specs.declared.Machine.{Machine}
use Rattle.detours.specs.Detours.{Goes, Detour}

-- the part has room for the matrices, and each node but the root has its parent before it
pub record Ready (n : ℕ) (p : List ℕ) : Type 0 where
  pub few : n ≤ document_nodes
  pub room : PAIRS * n ≤ length p
  pub parents : (v : ℕ) → 0 < v → v < n → word p n PARENT v < v

-- what is related already, or by a detour over the matrix that stands elsewhere
abbrev pub Widened : Machine → List ℕ → ℕ → ℕ → ℕ → ℕ → ℕ → ℕ → Type 0
Widened m p over at w w' i j = Related p at i j ⊎ Detour m p over w w' i j

-- the matrix becomes the closure of A, by at least r pairs; r is 0 if it has all of A already, and then nothing changes
pub record Visited (A : ℕ → ℕ → Type 0) (at : ℕ) (p p' : List ℕ) (r : ℕ) : Type 0 where
  pub only : Redrawn at p p'
  pub closed : 0 < r → (i j : ℕ) → i < positions → j < positions → Related p' at i j ↔ Chain A i j
  pub full : r ≡ 0 → (i j : ℕ) → i < positions → j < positions → A i j → Related p at i j
  pub count : r + pairs p at positions ≤ pairs p' at positions
  pub still : r ≡ 0 → p' ≡ p

-- j is in row i and one of the steps w
abbrev pub Steps : List ℕ → ℕ → ℕ → ℕ → Type 0
Steps rows w i j = (bit (get_or rows i 0) j ≡ true) × (bit w j ≡ true)

-- the matrix of node v becomes the closure of the steps that stay there
pub record Begun (m : Machine) (n v : ℕ) (p p' : List ℕ) : Type 0 where
  pub only : Redrawn (loop_at n v) p p'
  pub closed : (i j : ℕ) → i < positions → j < positions → Related p' (loop_at n v) i j ↔ Chain (Goes m (word p n STAYS v)) i j
