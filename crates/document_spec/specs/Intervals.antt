-- Nodes that stand together in the document: where the nodes under a node of the binary tree end, and the text of a run of nodes.
use Rattle.std.specs.Prelude.{ℕ, ◌≤◌, ◌<◌, List, [], ◌∷◌, ◌++◌, length}
use Rattle.document_spec.specs.Library.{Node, at}
use Rattle.document_spec.specs.Binary.{text_of}

-- the depth of node v
abbrev pub deep : List Node → ℕ → ℕ
deep ns v = (at ns v).depth

-- e is the next node behind v that is shallower than v, or the number of nodes
pub record End (ns : List Node) (v e : ℕ) : Type 0 where
  pub behind : v < e
  pub within : e ≤ length ns
  pub level : (u : ℕ) → v < u → u < e → deep ns v ≤ deep ns u
  pub stops : e < length ns → deep ns e < deep ns v

-- the texts of the nodes, joined in order
abbrev pub texts : List Node → List ℕ
texts [] = []
texts (n ∷ ns) = text_of n ++ texts ns
