-- A library as a list of nodes in document order, the rules of its tree, and how it is spelled: 01, the library document.
use Rattle.std.specs.Prelude.{ℕ, suc, ◌≤◌, ◌<◌, ◌≡◌, ◌⊎◌, ◌≢◌, List, [], ◌∷◌, ◌++◌, length, get_or}
use Rattle.lists.specs.Lists.{All}
use Rattle.lists.specs.Text.{bytes, Printable, decimal}
use Rattle.limits.specs.Limits.{document_nodes, value_bytes}
use Rattle.limits.specs.Names.{Name}

pub data Kind : Type 0 where
  element attribute text : Kind

pub record Node : Type 0 where
  pub depth : ℕ
  pub kind : Kind
  pub label : List ℕ
  pub value : List ℕ

-- nodes are numbered from 0
abbrev pub at : List Node → ℕ → Node
at ns v = get_or ns v (record { depth = 0; kind = element; label = []; value = [] })

-- V is 0 to 255 bytes from 0x20 to 0x7E
unfoldable pub Value : List ℕ → Type 0
Value b = All Printable b × (length b ≤ value_bytes)

-- ── The tree rules ──
-- behind a node of depth d and kind k: a depth is at most one more than the depth before it, and one more only behind an element; only the first node has depth 0
abbrev pub DepthBehind : ℕ → Kind → ℕ → Type 0
DepthBehind d k d' = (0 < d') × (d' ≤ suc d) × (d' ≡ suc d → k ≡ element)

-- an attribute directly follows its own element's lines or another attribute of the same depth
abbrev pub KindBehind : ℕ → Kind → ℕ → Kind → Type 0
KindBehind d k d' k' = k' ≡ attribute → ((k ≡ element) × (d' ≡ suc d)) ⊎ ((k ≡ attribute) × (d' ≡ d))

-- text has the label `text`; other kinds may have it too
abbrev pub LabelRule : Kind → List ℕ → Type 0
LabelRule k a = k ≡ text → a ≡ bytes "text"

-- an element's V is empty
abbrev pub ValueRule : Kind → List ℕ → Type 0
ValueRule k b = k ≡ element → b ≡ []

-- u and w, in this order, are attributes of one element, where A i says that node i is an attribute: an attribute directly follows its element's lines or another of its attributes, so all from u to w are attributes
pub record Together (A : ℕ → Type 0) (u w : ℕ) : Type 0 where
  pub before : u < w
  pub all : (i : ℕ) → u ≤ i → i ≤ w → A i

-- 02, (d): the attributes of one element have different labels
abbrev pub DifferentLabels : List Node → Type 0
DifferentLabels ns = (u w : ℕ) → w < length ns → Together (λ i. (at ns i).kind ≡ attribute) u w → (at ns u).label ≢ (at ns w).label

pub record Legal (ns : List Node) : Type 0 where
  pub some : 0 < length ns
  pub few : length ns ≤ document_nodes
  pub names : (v : ℕ) → v < length ns → Name (at ns v).label
  pub values : (v : ℕ) → v < length ns → Value (at ns v).value
  -- the first node is an element at depth 0
  pub top : (at ns 0).depth ≡ 0
  pub rooted : (at ns 0).kind ≡ element
  pub depths : (v : ℕ) → suc v < length ns → DepthBehind (at ns v).depth (at ns v).kind (at ns (suc v)).depth
  pub kinds : (v : ℕ) → suc v < length ns → KindBehind (at ns v).depth (at ns v).kind (at ns (suc v)).depth (at ns (suc v)).kind
  pub labelled : (v : ℕ) → v < length ns → LabelRule (at ns v).kind (at ns v).label
  pub empties : (v : ℕ) → v < length ns → ValueRule (at ns v).kind (at ns v).value
  pub distinct : DifferentLabels ns

-- ── The spelling: every line ends in LF ──
abbrev pub nodes_line : ℕ → List ℕ
nodes_line n = bytes "nodes=" ++ (decimal n ++ bytes "\n")

abbrev pub depth_line : ℕ → List ℕ
depth_line d = bytes "depth=" ++ (decimal d ++ bytes "\n")

abbrev pub kind_line : Kind → List ℕ
kind_line element = bytes "kind=e\n"
kind_line attribute = bytes "kind=a\n"
kind_line text = bytes "kind=t\n"

abbrev pub label_line : List ℕ → List ℕ
label_line a = bytes "label=" ++ (a ++ bytes "\n")

abbrev pub value_line : List ℕ → List ℕ
value_line b = bytes "value=" ++ (b ++ bytes "\n")

-- four lines for each node, in document order
unfoldable pub node_lines : List Node → List ℕ
node_lines [] = []
node_lines (x ∷ ns) = depth_line x.depth ++ (kind_line x.kind ++ (label_line x.label ++ (value_line x.value ++ node_lines ns)))

unfoldable pub spell : List Node → List ℕ
spell ns = nodes_line (length ns) ++ node_lines ns
