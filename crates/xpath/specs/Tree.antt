-- A binary tree with nodes 0 to size - 1 and the root 0: 000, 1.2.1. Every other node has a parent, whose left or right child it is.
use Rattle.std.specs.Prelude.{ℕ, zero, suc, ◌<◌, ◌≡◌, Bool, true, false, List}

pub record Tree : Type 0 where
  pub size : ℕ
  pub parent : ℕ → ℕ
  pub is_left : ℕ → Bool
  pub label : ℕ → List ℕ
  -- what comparisons compare: the string value without the blanks at its ends
  pub value : ℕ → List ℕ

-- w is v's left child (side true) or right child (side false)
pub record Child (t : Tree) (side : Bool) (v w : ℕ) : Type 0 where
  pub inner : 0 < w
  pub inside : w < t.size
  pub above : t.parent w ≡ v
  pub which : t.is_left w ≡ side

-- what every tree of a document has: a node is numbered before its children, a left child is the next node, and there is one right child at most
pub record WellFormed (t : Tree) : Type 0 where
  pub rooted : 0 < t.size
  pub upwards : (v : ℕ) → 0 < v → v < t.size → t.parent v < v
  pub left_next : (v w : ℕ) → Child t true v w → w ≡ suc v
  pub one_right : (v w w' : ℕ) → Child t false v w → Child t false v w' → w ≡ w'

module _ (t : Tree) where
  -- y lies n edges below x
  pub data Down (x : ℕ) : ℕ → ℕ → Type 0 where
    here : Down x x zero
    deeper : {y z n : ℕ} {side : Bool} → Down x y n → Child t side y z → Down x z (suc n)

  -- y is x or below x
  abbrev pub Under : ℕ → ℕ → Type 0
  Under x y = (n : ℕ) × Down x y n
