-- The table of an accepted document with n nodes, and work in its columns behind the tree's own.
use Rattle.std.specs.Prelude.{ℕ, ◌≡◌, List, length}
use Rattle.document_spec.specs.Library.{Node}
use Rattle.document_spec.specs.Verdict.{Accepts}
use Rattle.layout.specs.Table.{COLUMNS, RANK, Room}
use Rattle.layout.specs.Words.{Within}
use Rattle.table.specs.Links.{Linked}

-- t begins with the table of the tree of an accepted document with n nodes
pub record Tabled (s : List ℕ) (n : ℕ) (t : List ℕ) : Type 0 where
  pub nodes : List Node
  pub accepts : Accepts s nodes
  pub linked : Linked s nodes t
  pub size : length nodes ≡ n
  pub room : Room n t

-- work in the columns behind the tree's own: the tree stays, and all behind the table too
abbrev pub Worked : ℕ → List ℕ → List ℕ → Type 0
Worked n t t' = Within n RANK COLUMNS t t'
