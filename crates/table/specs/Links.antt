-- The table holds the binary tree of a library, and where the lines of its nodes stand.
use Rattle.std.specs.Prelude.{ℕ, ◌*◌, ◌<◌, ◌≡◌, ◌⊎◌, Bool, List, length}
use Rattle.xpath.specs.Tree.{Child}
use Rattle.document_spec.specs.Library.{Node}
use Rattle.document_spec.specs.Binary.{parent_of, tree_of}
use Rattle.document_lines.specs.Entries.{Stands}
use Rattle.layout.specs.Table.{COLUMNS, PARENT, column, offset_of}
use Rattle.layout.specs.Words.{NONE, word, Kept}

-- a word is a number that B holds of, or no node where there is none
abbrev pub Points : (ℕ → Type 0) → ℕ → Type 0
Points B x = B x ⊎ ((x ≡ NONE) × ((w : ℕ) → ¬ B w))

-- a word is v's parent, or no node for the root
abbrev pub IsParent : List Node → ℕ → ℕ → Type 0
IsParent ns v x = ((v ≡ 0) × (x ≡ NONE)) ⊎ ((0 < v) × (x ≡ parent_of ns v))

pub record Linked (s : List ℕ) (ns : List Node) (t : List ℕ) : Type 0 where
  pub places : (v : ℕ) → v < length ns → Stands s ns v (offset_of t (length ns) v)
  pub children : (side : Bool) (v : ℕ) → v < length ns → Points (Child (tree_of ns) side v) (word t (length ns) (column side) v)
  pub parents : (v : ℕ) → v < length ns → IsParent ns v (word t (length ns) PARENT v)

-- the tree is written, and all behind its own words is as before
pub record Built (s : List ℕ) (ns : List Node) (before after : List ℕ) : Type 0 where
  pub linked : Linked s ns after
  pub kept : Kept (COLUMNS * length ns) before after
