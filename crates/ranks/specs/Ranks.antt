-- Ranks: numbers of the nodes that are in the order of their compared values.
use Rattle.std.specs.Prelude.{ℕ, ◌*◌, ◌<◌, ◌≡◌, ◌↔◌, List, length}
use Rattle.string_order.specs.Bytes.{Less}
use Rattle.document_spec.specs.Library.{Node}
use Rattle.document_spec.specs.Binary.{compared_of}
use Rattle.layout.specs.Table.{COLUMNS, RANK}
use Rattle.layout.specs.Words.{word, Kept}
use Rattle.table.specs.Links.{Linked}
use Rattle.value_notes.specs.Notes.{Annotated}

pub record Ranked (ns : List Node) (t : List ℕ) : Type 0 where
  pub small : (v : ℕ) → v < length ns → word t (length ns) RANK v < length ns
  pub ordered : (v w : ℕ) → v < length ns → w < length ns
      → (word t (length ns) RANK v < word t (length ns) RANK w) ↔ Less (compared_of ns v) (compared_of ns w)
  pub same : (v w : ℕ) → v < length ns → w < length ns
      → (word t (length ns) RANK v ≡ word t (length ns) RANK w) ↔ (compared_of ns v ≡ compared_of ns w)

-- the ranks and the notes of the values are written, the tree is as it was, and so is all behind the table
pub record Written (s : List ℕ) (ns : List Node) (before after : List ℕ) : Type 0 where
  pub ranked : Ranked ns after
  pub linked : Linked s ns after
  pub annotated : Annotated s (length ns) after
  pub kept : Kept (COLUMNS * length ns) before after
