-- What the check knows of the node before the one that it reads.
use Rattle.std.specs.Prelude.{ℕ, zero, suc, ◌≡◌, Bool, true, false, Option, Some, None, List, ◌++◌, drop}
use Rattle.limits.specs.Names.{Name}
use Rattle.lexer.specs.Reading.{Spans}
use Rattle.document_spec.specs.Library.{element, attribute, text, DepthBehind, KindBehind, Value, kind_line, label_line, value_line}
use Rattle.document_spec.specs.Library as Library
use Rattle.document_lines.specs.declared.rules.Kind.{Kind}
use Rattle.document_lines.specs.declared.rules.Kind.TheVariants.{Element, Attribute, Text}
use Rattle.document_lines.specs.declared.rules.Node.{Node}

abbrev pub kind_of : Kind → Library.Kind
kind_of Element = element
kind_of Attribute = attribute
kind_of Text = text

-- a test tells whether A holds
abbrev pub Told : Type 0 → Bool → Type 0
Told A true = A
Told A false = ¬ A

-- the depth rule of node v behind the node before it
abbrev pub DepthRule : ℕ → Node → ℕ → Type 0
DepthRule zero p d = d ≡ 0
DepthRule (suc v) p d = DepthBehind p.depth (kind_of p.kind) d

abbrev pub KindRule : ℕ → Node → ℕ → Kind → Type 0
KindRule zero p d k = kind_of k ≡ element
KindRule (suc v) p d k = KindBehind p.depth (kind_of p.kind) d (kind_of k)

-- what a reader of a kind line answers at i
abbrev pub KindRead : List ℕ → ℕ → Option (Kind × ℕ) → Type 0
KindRead s i (Some (k, j)) = Spans s i (kind_line (kind_of k)) j
KindRead s i None = (k : Library.Kind) (r : List ℕ) → ¬ (drop i s ≡ kind_line k ++ r)

abbrev pub IsLabel : List ℕ → Type 0
IsLabel l = (a : List ℕ) × Name a × (l ≡ label_line a)

abbrev pub IsValue : List ℕ → Type 0
IsValue l = (b : List ℕ) × Value b × (l ≡ value_line b)
