-- Where the fields of a node lie in an accepted document.
use Rattle.std.specs.Prelude.{ℕ, suc, ◌≤◌, ◌<◌, ◌≡◌, List, length, drop}
use Rattle.std.proofs.Math.Seq.{slice}
use Rattle.document_spec.specs.Library as Library
use Rattle.document_spec.specs.Library.{at, node_lines}
use Rattle.document_spec.specs.Verdict.{Accepts}
use Rattle.document_lines.specs.declared.entries.Entry.{Entry}
use Rattle.document_lines.specs.Nodes.{kind_of}

-- the lines of the nodes ns stand from i on
pub record Start (s : List ℕ) (ns : List Library.Node) (i : ℕ) : Type 0 where
  pub inside : i ≤ length s
  pub here : drop i s ≡ node_lines ns

-- the lines of node v stand at i
pub record Stands (s : List ℕ) (ns : List Library.Node) (v i : ℕ) : Type 0 where
  pub accepts : Accepts s ns
  pub node : v < length ns
  pub start : Start s (drop v ns) i

-- e has the fields of node v, and the next node's lines stand behind it
pub record IsEntry (s : List ℕ) (ns : List Library.Node) (v : ℕ) (e : Entry) : Type 0 where
  pub depth : e.depth ≡ (at ns v).depth
  pub kind : kind_of e.kind ≡ (at ns v).kind
  pub label : slice e.label.from e.label.to s ≡ (at ns v).label
  pub value : slice e.value.from e.value.to s ≡ (at ns v).value
  pub order : e.value.from ≤ e.value.to
  pub ends : e.value.to ≤ e.next
  pub behind : Start s (drop (suc v) ns) e.next
