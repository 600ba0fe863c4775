-- The four lines of a node, one to a field: where a line stands, that it has its form, and that it keeps the tree rule of its field.
use Rattle.std.specs.Prelude.{ℕ, zero, suc, ◌+◌, ◌*◌, ◌≡◌, List}
use Rattle.document_spec.specs.Library.{Kind, element, DepthBehind, KindBehind, LabelRule, ValueRule}
use Rattle.document_spec.specs.Verdict.{DepthIs, KindIs, LabelIs, ValueIs}

pub data Field : Type 0 where
  depth kind label value : Field

abbrev pub offset : Field → ℕ
offset depth = 2
offset kind = 3
offset label = 4
offset value = 5

-- the line of a field of node v
abbrev pub line_of : ℕ → Field → ℕ
line_of v f = 4 * v + offset f

-- the line has the form that is due there
abbrev pub Formed : List ℕ → ℕ → Field → Type 0
Formed s v depth = (d : ℕ) × DepthIs s v d
Formed s v kind = (k : Kind) × KindIs s v k
Formed s v label = (a : List ℕ) × LabelIs s v a
Formed s v value = (b : List ℕ) × ValueIs s v b

-- what the line says keeps the tree rule of its field
abbrev pub Ruled : List ℕ → ℕ → Field → Type 0
Ruled s zero depth = (d : ℕ) → DepthIs s 0 d → d ≡ 0
Ruled s (suc v) depth = (d d' : ℕ) (k : Kind) → DepthIs s v d → KindIs s v k → DepthIs s (suc v) d' → DepthBehind d k d'
Ruled s zero kind = (k : Kind) → KindIs s 0 k → k ≡ element
Ruled s (suc v) kind = (d d' : ℕ) (k k' : Kind) → DepthIs s v d → KindIs s v k → DepthIs s (suc v) d' → KindIs s (suc v) k' → KindBehind d k d' k'
Ruled s v label = (k : Kind) (a : List ℕ) → KindIs s v k → LabelIs s v a → LabelRule k a
Ruled s v value = (k : Kind) (b : List ℕ) → KindIs s v k → ValueIs s v b → ValueRule k b
