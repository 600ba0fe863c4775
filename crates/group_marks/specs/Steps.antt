-- What the single steps write: a mark, a note, the marks of a node and all above it.
use Rattle.std.specs.Prelude.{ℕ, suc, ◌%◌, ◌<◌, ◌≡◌, ◌⊎◌, ◌≢◌, List}
use Rattle.xpath.specs.Tree.{Tree, Under}
use Rattle.layout.specs.Groups.{MARKED}
use Rattle.layout.specs.Table.{PARENT}
use Rattle.layout.specs.Words.{word, Within}
use Rattle.machine.specs.Shape.{Shape}
use Rattle.group_marks.specs.Groups.{IsMarked, IsNoted}

-- a word is a node that is marked
abbrev pub MarkedNode : List ℕ → ℕ → ℕ → Type 0
MarkedNode p n x = (x < n) × IsMarked p n x

-- v is marked now, the other marks are as before, and what is noted stays noted
pub record Marking (n v : ℕ) (p p' : List ℕ) : Type 0 where
  pub within : Within n MARKED (suc MARKED) p p'
  pub here : IsMarked p' n v
  pub other : (u : ℕ) → u < n → u ≢ v → word p' n MARKED u % 2 ≡ word p n MARKED u % 2
  pub notes : (u : ℕ) → u < n → IsNoted p n u → IsNoted p' n u

-- v's block is noted now, the marks are as before, and what is noted stays noted
pub record Noting (n v : ℕ) (p p' : List ℕ) : Type 0 where
  pub within : Within n MARKED (suc MARKED) p p'
  pub here : IsNoted p' n v
  pub marks : (u : ℕ) → u < n → word p' n MARKED u % 2 ≡ word p n MARKED u % 2
  pub notes : (u : ℕ) → u < n → IsNoted p n u → IsNoted p' n u

-- two marked nodes a and b have the parent x
pub record Fork (n : ℕ) (p : List ℕ) (x a b : ℕ) : Type 0 where
  pub one : MarkedNode p n a
  pub two : MarkedNode p n b
  pub apart : a ≢ b
  pub over : word p n PARENT a ≡ x
  pub also : word p n PARENT b ≡ x

pub record Closed (n : ℕ) (p : List ℕ) : Type 0 where
  -- the parent of a marked node is marked
  pub up : (v : ℕ) → v < n → IsMarked p n v → word p n PARENT v < n → IsMarked p n (word p n PARENT v)
  -- the parent of two marked nodes has its block noted
  pub forked : (x a b : ℕ) → x < n → Fork n p x a b → IsNoted p n x

-- w and all above it are marked too now
pub record Raised (n w : ℕ) (p p' : List ℕ) : Type 0 where
  -- no other column has changed
  pub within : Within n MARKED (suc MARKED) p p'
  pub closed : Closed n p'
  -- what was marked is marked
  pub grows : (v : ℕ) → v < n → IsMarked p n v → IsMarked p' n v
  pub notes : (v : ℕ) → v < n → IsNoted p n v → IsNoted p' n v
  pub here : IsMarked p' n w
  -- what is newly marked is w or above w
  pub sound : (t : Tree) → Shape t n p → (v : ℕ) → v < n → IsMarked p' n v → IsMarked p n v ⊎ Under t v w

-- and w's block is noted
pub record Joined (n w : ℕ) (p p' : List ℕ) : Type 0 where
  pub raised : Raised n w p p'
  pub noted : IsNoted p' n w
