-- What the check promises, and what it knows on the way.
use Rattle.std.specs.Prelude.{ℕ, zero, suc, ◌+◌, ◌*◌, ◌≤◌, ◌<◌, ◌^◌, ◌≡◌, List, ◌++◌, length, drop, Result, Ok, Err}
use Rattle.lists.specs.Text.{bytes}
use Rattle.limits.specs.Limits.{depth_digits}
use Rattle.refusals.specs.Refusals.{document_length, line_form, node_count, tree_rule, duplicate_attribute, First}
use Rattle.document_spec.specs.Library as Library
use Rattle.document_spec.specs.Verdict.{behind_lines, DepthIs, KindIs, LabelIs, DocumentGround, Accepts}
use Rattle.document_spec.specs.Good.{Good}
use Rattle.document.specs.declared.Refusal.{Refusal}
use Rattle.document.specs.declared.Refusal.TheVariants.{Length, Form, Count, Tree, Duplicate}
use Rattle.document_lines.specs.declared.rules.Node.{Node}
use Rattle.document_lines.specs.declared.rules.Kind.{Kind}
use Rattle.document_lines.specs.declared.rules.Kind.TheVariants.{Element, Attribute, Text}
use Rattle.document_lines.specs.Nodes.{kind_of}
use Rattle.label_trees.specs.declared.NotAdded.{NotAdded}
use Rattle.label_trees.specs.Trees.{key_at, heads, max_words, held, offset_at, Below, Stands, Holds, Adds}
use Rattle.document.specs.declared.nodes.Progress.{Progress}
use Rattle.document.specs.declared.nodes.Stop.{Stop}
use Rattle.document.specs.declared.nodes.Stop.TheVariants.{Refused, Full}
use Rattle.document.specs.declared.Halt.{Halt}
use Rattle.document.specs.declared.Halt.TheVariants as halt

-- the verdict of the definition: the library that the document spells, or the first ground in the written order
abbrev pub Judged : List ℕ → Result ℕ Refusal → Type 0
Judged s (Ok n) = (ns : List Library.Node) × Accepts s ns × (length ns ≡ n)
Judged s (Err Length) = First (DocumentGround s) document_length
Judged s (Err (Form i)) = First (DocumentGround s) (line_form i)
Judged s (Err Count) = First (DocumentGround s) node_count
Judged s (Err (Tree i)) = First (DocumentGround s) (tree_rule i)
Judged s (Err (Duplicate i)) = First (DocumentGround s) (duplicate_attribute i)

-- ── On the way ──
-- the first k lines are good, and the cursor is behind them
pub record Cursor (s : List ℕ) (n k i : ℕ) : Type 0 where
  pub good : Good s n k
  pub here : behind_lines k s ≡ drop i s
  pub inside : i ≤ length s

-- node v says its depth and kind
pub record Says (s : List ℕ) (v : ℕ) (x : Node) : Type 0 where
  pub depth : DepthIs s v x.depth
  pub kind : KindIs s v (kind_of x.kind)

-- the node before node v, if there is one
abbrev pub Before : List ℕ → ℕ → Node → Type 0
Before s zero p = Unit {0}
Before s (suc v) p = Says s v p

-- ── The labels of the element at hand ──
-- node v is an attribute, and its label with the LF stands at o
pub record Labelled (s : List ℕ) (v o : ℕ) : Type 0 where
  pub kind : KindIs s v Library.attribute
  pub name : List ℕ
  pub label : LabelIs s v name
  pub key : key_at s o ≡ name ++ bytes "\n"

-- the words t hold the labels of all attributes of the element at hand that stand before node v
pub record Run (s t : List ℕ) (v i : ℕ) : Type 0 where
  pub holds : Holds s t
  -- the first of them
  pub first : ℕ
  pub upto : first + held t ≡ v
  pub opens : (u : ℕ) → suc u ≡ first → ¬ KindIs s u Library.attribute
  pub labelled : (k : ℕ) → k < held t → Labelled s (first + k) (offset_at t k)
  -- they stand before the cursor
  pub below : Below t i

-- next to an attribute the words are in use, next to another node they can hold anything
abbrev pub Carries : List ℕ → List ℕ → ℕ → ℕ → Kind → Type 0
Carries s t v i Element = Unit {0}
Carries s t v i Attribute = Run s t v i
Carries s t v i Text = Unit {0}

-- there are words for the roots, and not more than for any document
abbrev pub Room : List ℕ → Type 0
Room t = (heads ≤ length t) × (length t ≤ max_words)

-- ── Before each of the four lines of a node ──
-- the lines before node h .node are good, and the words hold what they must
pub record Reached (s t : List ℕ) (n : ℕ) (h : Progress) : Type 0 where
  pub cursor : Cursor s n (4 * h.node + 1) h.at
  pub before : Before s h.node h.before
  pub small : h.before.depth < 10 ^ depth_digits
  pub carries : Carries s t h.node h.at h.before.kind

pub record AtKind (s t : List ℕ) (n : ℕ) (h : Progress) (d i : ℕ) : Type 0 where
  pub inside : h.node < n
  pub reached : Reached s t n h
  pub cursor : Cursor s n (4 * h.node + 2) i
  pub forth : h.at ≤ i
  pub depth : DepthIs s h.node d

pub record AtLabel (s t : List ℕ) (n v : ℕ) (x : Node) (i : ℕ) : Type 0 where
  pub inside : v < n
  pub cursor : Cursor s n (4 * v + 3) i
  pub says : Says s v x
  pub carries : Carries s t v i x.kind

pub record AtValue (s : List ℕ) (n v : ℕ) (x : Node) (i : ℕ) : Type 0 where
  pub inside : v < n
  pub cursor : Cursor s n (4 * v + 4) i
  pub says : Says s v x

-- ── What is done with the words at a kind line and at a label line ──
-- the trees are empty
pub record Cleared (t : List ℕ) : Type 0 where
  pub none : held t ≡ 0
  pub holds : (s : List ℕ) → Holds s t

-- by the kinds of the node before and of the node at hand: at the first attribute behind another node the labels are forgotten
abbrev pub Opened : Kind → Kind → List ℕ → List ℕ → Type 0
Opened b Element t t' = t' ≡ t
Opened Element Attribute t t' = Cleared t'
Opened Attribute Attribute t t' = t' ≡ t
Opened Text Attribute t t' = Cleared t'
Opened b Text t t' = t' ≡ t

-- the label that stands behind `label=` at i can be entered
abbrev pub Enterable : List ℕ → List ℕ → ℕ → ℕ → Kind → Type 0
Enterable s t i j Element = Unit {0}
Enterable s t i j Attribute = Stands s (i + 6) j × Holds s t × Below t (i + 6)
Enterable s t i j Text = Unit {0}

-- the label of an attribute is entered, that of another node is not
abbrev pub Entered : List ℕ → List ℕ → ℕ → Kind → List ℕ → Result (Unit {0}) NotAdded → Type 0
Entered s t i Element t' r = (t' ≡ t) × (r ≡ Ok tt)
Entered s t i Attribute t' r = Adds s t (i + 6) t' r
Entered s t i Text t' r = (t' ≡ t) × (r ≡ Ok tt)

-- ── Behind the lines of a node ──
-- behind the value line of node v
abbrev pub Valued : List ℕ → ℕ → ℕ → Node → ℕ → Result Progress Refusal → Type 0
Valued s n v x i (Ok h) = (h.node ≡ suc v) × (h.before ≡ x) × (i ≤ h.at) × Cursor s n (4 * suc v + 1) h.at
Valued s n v x i (Err w) = Judged s (Err w)

-- behind node v, refused, or F: there are no words for its label
abbrev pub Stepped : List ℕ → List ℕ → ℕ → ℕ → Type 0 → Result Progress Stop → Type 0
Stepped s t n v F (Ok h) = (h.node ≡ suc v) × Reached s t n h
Stepped s t n v F (Err (Refused w)) = Judged s (Err w)
Stepped s t n v F (Err Full) = F

-- the words are used up before node v
abbrev pub UsedUp : List ℕ → ℕ → Type 0
UsedUp t v = length t < heads + 3 * suc v

-- there are no words for the next node's label; the others are still held
abbrev pub NoWords : List ℕ → List ℕ → Progress → Type 0
NoWords s t h = Carries s t h.node h.at h.before.kind × UsedUp t h.node

-- the verdict, or how far the words reached
abbrev pub NodesRead : List ℕ → List ℕ → ℕ → Result ℕ Halt → Type 0
NodesRead s t n (Ok m) = Judged s (Ok m)
NodesRead s t n (Err (halt.Refused w)) = Judged s (Err w)
NodesRead s t n (Err (halt.Full h)) = (h.node < n) × Reached s t n h × UsedUp t h.node
