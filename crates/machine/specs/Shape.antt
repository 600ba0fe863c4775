-- The tree in a comparison's part, and which of the part's columns may change.
use Rattle.std.specs.Prelude.{ℕ, ◌≤◌, ◌<◌, ◌≡◌, ◌⊎◌, Bool, List}
use Rattle.limits.specs.Limits.{document_nodes}
use Rattle.xpath.specs.Tree.{Tree, Child, WellFormed}
use Rattle.layout.specs.Table.{PARENT, column}
use Rattle.layout.specs.Words.{NONE, word}
use Rattle.table.specs.Links.{Points}

-- the words hold the links of the tree t, which has n nodes: what `Drawn` says of them
pub record Shape (t : Tree) (n : ℕ) (p : List ℕ) : Type 0 where
  pub formed : WellFormed t
  pub size : t.size ≡ n
  pub few : n ≤ document_nodes
  -- a word for a child is the child, or none
  pub children : (side : Bool) (v : ℕ) → v < n → Points (Child t side v) (word p n (column side) v)
  -- a word for the parent is the parent, or none for the root
  pub parents : (v : ℕ) → v < n → ((v ≡ 0) × (word p n PARENT v ≡ NONE)) ⊎ ((0 < v) × (word p n PARENT v ≡ t.parent v))
