-- The binary tree and the string values that a library stands for: 01, the library document, behind the tree rules; 000, 1.2.1; 02 (b).
use Rattle.std.specs.Prelude.{ℕ, zero, suc, Bool, true, false, List, [], ◌∷◌, ◌++◌, length, drop, eqb, ltb}
use Rattle.lists.specs.Blanks.{trim}
use Rattle.xpath.specs.Tree.{Tree}
use Rattle.document_spec.specs.Library.{Node, element, attribute, text, at}

abbrev pub pick : {A : Type 0} → Bool → A → A → A
pick true a b = a
pick false a b = b

-- the last node before v that has depth d
abbrev pub back : List Node → ℕ → ℕ → ℕ
back ns d zero = zero
back ns d (suc v) = pick (eqb (at ns v).depth d) v (back ns d v)

-- the left child is the first child in the document, attributes included: v is the left child of the node just before it if it lies deeper
abbrev pub is_first : List Node → ℕ → Bool
is_first ns zero = false
is_first ns (suc v) = ltb (at ns v).depth (at ns (suc v)).depth

abbrev pub before : ℕ → ℕ
before zero = zero
before (suc v) = v

-- the right child is the next sibling: any other v is the right child of the last node before it that has its depth
abbrev pub parent_of : List Node → ℕ → ℕ
parent_of ns v = pick (is_first ns v) (before v) (back ns (at ns v).depth v)

abbrev pub text_of : Node → List ℕ
text_of n = elim n.kind [ element ↦ [] | attribute ↦ [] | text ↦ n.value ]

-- the text V of the nodes in front that lie deeper than d, joined in order, without attributes
abbrev pub joined : ℕ → List Node → List ℕ
joined d [] = []
joined d (n ∷ ns) = pick (ltb d n.depth) (text_of n ++ joined d ns) []

-- the string value of text or an attribute is its V; an element's is all text V inside it in the document
abbrev pub string_of : List Node → ℕ → List ℕ
string_of ns v = elim (at ns v).kind [ element ↦ joined (at ns v).depth (drop (suc v) ns) | attribute ↦ (at ns v).value | text ↦ (at ns v).value ]

-- 02 (b): the value that is compared is the string value without the blanks at its ends, cut after an element's text is joined
unfoldable pub compared_of : List Node → ℕ → List ℕ
compared_of ns v = trim (string_of ns v)

abbrev pub tree_of : List Node → Tree
tree_of ns = record {
  size = length ns;
  parent = parent_of ns;
  is_left = is_first ns;
  label = λ v. (at ns v).label;
  value = compared_of ns;
}
