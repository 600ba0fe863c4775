-- A matrix is sound for a node: what it relates are chains from the node back to it.
use Rattle.std.specs.Prelude.{ℕ, ◌<◌, List}
use Rattle.limits.specs.Limits.{positions}
use Rattle.xpath.specs.Syntax.{XPath}
use Rattle.xpath.specs.Tree.{Tree}
use Rattle.positions.specs.Positions.{Comes}
use Rattle.matrices.specs.Matrices.{Related}

-- what the matrix at an offset relates comes from v back to v
abbrev pub Sound : XPath → XPath → Tree → List ℕ → ℕ → ℕ → Type 0
Sound P R t p at v = (i j : ℕ) → i < positions → j < positions → Related p at i j → Comes P R t i v j v
