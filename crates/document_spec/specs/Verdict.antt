-- When a document is refused: numbers 1 to 4 of 01, and 14 of 02.
use Rattle.std.specs.Prelude.{ℕ, zero, suc, ◌+◌, ◌-◌, ◌*◌, ◌≤◌, ◌<◌, ◌^◌, ◌≡◌, ◌⊎◌, ◌≢◌, true, false, List, [], ◌∷◌, length, eqb}
use Rattle.limits.specs.Limits.{document_bytes, document_nodes, count_digits, depth_digits}
use Rattle.limits.specs.Names.{Name}
use Rattle.refusals.specs.Refusals.{Refusal, document_length, line_form, node_count, tree_rule, duplicate_attribute, number, place, First}
use Rattle.document_spec.specs.Library.{Node, Kind, element, attribute, Value, DepthBehind, KindBehind, LabelRule, ValueRule, Together, Legal, nodes_line, depth_line, kind_line, label_line, value_line, spell}

-- a line with the LF that ends it; the last line may lack it
unfoldable pub first_line : List ℕ → List ℕ
first_line [] = []
first_line (b ∷ s) = b ∷ elim (eqb b 10) [ true ↦ [] | false ↦ first_line s ]

-- what is behind the first line
unfoldable pub behind_line : List ℕ → List ℕ
behind_line [] = []
behind_line (b ∷ s) = elim (eqb b 10) [ true ↦ s | false ↦ behind_line s ]

unfoldable pub behind_lines : ℕ → List ℕ → List ℕ
behind_lines zero s = s
behind_lines (suc i) s = behind_lines i (behind_line s)

-- line i, counted from 1; it is empty where the document has no such line
unfoldable pub line : List ℕ → ℕ → List ℕ
line s i = first_line (behind_lines (i - 1) s)

module _ (s : List ℕ) where
  -- ── What a line of the form due there says: N, and the fields of node v ──
  -- N has 1 to 5 digits and D 1 to 4
  abbrev pub CountIs : ℕ → Type 0
  CountIs n = (n < 10 ^ count_digits) × (line s 1 ≡ nodes_line n)

  abbrev pub DepthIs : ℕ → ℕ → Type 0
  DepthIs v d = (d < 10 ^ depth_digits) × (line s (4 * v + 2) ≡ depth_line d)

  abbrev pub KindIs : ℕ → Kind → Type 0
  KindIs v k = line s (4 * v + 3) ≡ kind_line k

  abbrev pub LabelIs : ℕ → List ℕ → Type 0
  LabelIs v a = Name a × (line s (4 * v + 4) ≡ label_line a)

  abbrev pub ValueIs : ℕ → List ℕ → Type 0
  ValueIs v b = Value b × (line s (4 * v + 5) ≡ value_line b)

  -- number 2: a line not of the form due there, missing, extra, or without LF
  pub data Malformed : ℕ → Type 0 where
    count : ((n : ℕ) → ¬ CountIs n) → Malformed 1
    depth : {n : ℕ} (v : ℕ) → CountIs n → v < n → ((d : ℕ) → ¬ DepthIs v d) → Malformed (4 * v + 2)
    kind : {n : ℕ} (v : ℕ) → CountIs n → v < n → ((k : Kind) → ¬ KindIs v k) → Malformed (4 * v + 3)
    label : {n : ℕ} (v : ℕ) → CountIs n → v < n → ((a : List ℕ) → ¬ LabelIs v a) → Malformed (4 * v + 4)
    value : {n : ℕ} (v : ℕ) → CountIs n → v < n → ((b : List ℕ) → ¬ ValueIs v b) → Malformed (4 * v + 5)
    extra : (n : ℕ) → CountIs n → line s (4 * n + 2) ≢ [] → Malformed (4 * n + 2)

  -- number 4: a tree rule is broken, on the line that breaks it
  pub data Breaks : ℕ → Type 0 where
    top : {n d : ℕ} → CountIs n → 0 < n → DepthIs 0 d → d ≢ 0 → Breaks 2
    rooted : {n : ℕ} {k : Kind} → CountIs n → 0 < n → KindIs 0 k → k ≢ element → Breaks 3
    depth : {n v d d' : ℕ} {k : Kind} → CountIs n → suc v < n → DepthIs v d → KindIs v k → DepthIs (suc v) d'
        → ¬ DepthBehind d k d' → Breaks (4 * suc v + 2)
    kind : {n v d d' : ℕ} {k k' : Kind} → CountIs n → suc v < n → DepthIs v d → KindIs v k → DepthIs (suc v) d' → KindIs (suc v) k'
        → ¬ KindBehind d k d' k' → Breaks (4 * suc v + 3)
    label : {n : ℕ} {k : Kind} {a : List ℕ} (v : ℕ) → CountIs n → v < n → KindIs v k → LabelIs v a → ¬ LabelRule k a → Breaks (4 * v + 4)
    value : {n : ℕ} {k : Kind} {b : List ℕ} (v : ℕ) → CountIs n → v < n → KindIs v k → ValueIs v b → ¬ ValueRule k b → Breaks (4 * v + 5)

  -- number 14: an attribute has the label of an earlier attribute of its element; on its label line
  pub data Duplicate : ℕ → Type 0 where
    label : {n u w : ℕ} (a : List ℕ) → CountIs n → w < n → Together (λ i. KindIs i attribute) u w → LabelIs u a → LabelIs w a → Duplicate (4 * w + 4)

  -- the grounds that judge a document
  pub data DocumentGround : Refusal → Type 0 where
    long : document_bytes < length s → DocumentGround document_length
    malformed : {i : ℕ} → Malformed i → DocumentGround (line_form i)
    range : {n : ℕ} → CountIs n → (n ≡ 0) ⊎ (document_nodes < n) → DocumentGround node_count
    breaks : {i : ℕ} → Breaks i → DocumentGround (tree_rule i)
    duplicate : {i : ℕ} → Duplicate i → DocumentGround (duplicate_attribute i)

  -- the document spells the library ns
  pub record Accepts (ns : List Node) : Type 0 where
    pub short : length s ≤ document_bytes
    pub legal : Legal ns
    pub spelled : s ≡ spell ns

  -- what the document check returns, by number, place and N: the first ground and N 0, or no number and the N of the library
  pub record Checked (n p nodes : ℕ) : Type 0 where
    pub refused : (r : Refusal) → First DocumentGround r → (n ≡ number r) × (p ≡ place r) × (nodes ≡ 0)
    pub accepted : (ns : List Node) → Accepts ns → (n ≡ 0) × (p ≡ 0) × (nodes ≡ length ns)
