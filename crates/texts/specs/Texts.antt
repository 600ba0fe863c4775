-- Where the text under each node begins and ends, blanks at both ends left out: a column for the first node with text that is not blank and one for the last.
use Rattle.std.specs.Prelude.{ℕ, suc, ◌≤◌, ◌<◌, ◌≡◌, ◌⊎◌, List, [], length}
use Rattle.lists.specs.Blanks.{trim}
use Rattle.document_spec.specs.Library.{Node, at}
use Rattle.document_spec.specs.Binary.{text_of}
use Rattle.document_spec.specs.Intervals.{End}
use Rattle.layout.specs.Words.{NONE, word}
use Rattle.layout.specs.Ranking.{FIRST_TEXT, LAST_TEXT}

-- ── The nodes from a up to b ──
-- none of them has text, but for blanks
abbrev pub Silent : List Node → ℕ → ℕ → Type 0
Silent ns a b = (u : ℕ) → a ≤ u → u < b → trim (text_of (at ns u)) ≡ []

-- f is the first of them that has text that is not blank, and l the last
pub record Spoken (ns : List Node) (a b f l : ℕ) : Type 0 where
  pub after : a ≤ f
  pub order : f ≤ l
  pub within : l < b
  pub begins : 0 < length (trim (text_of (at ns f)))
  pub ends : 0 < length (trim (text_of (at ns l)))
  pub front : Silent ns a f
  pub behind : Silent ns (suc l) b

-- the same, or both are no node where none has such text
abbrev pub Bounds : List Node → ℕ → ℕ → ℕ → ℕ → Type 0
Bounds ns a b f l = Spoken ns a b f l ⊎ ((f ≡ NONE) × (l ≡ NONE) × Silent ns a b)

-- they are x and what is under it in the binary tree; or there are none, and x is no node
abbrev pub Extent : List Node → ℕ → ℕ → ℕ → Type 0
Extent ns x a b = ((x ≡ a) × End ns x b) ⊎ ((x ≡ NONE) × (a ≡ b))

-- the nodes behind v up to b are what lies inside v in the document
pub record Content (ns : List Node) (v b : ℕ) : Type 0 where
  pub behind : v < b
  pub within : b ≤ length ns
  pub deeper : (u : ℕ) → v < u → u < b → (at ns v).depth < (at ns u).depth
  pub stops : b < length ns → (at ns b).depth ≤ (at ns v).depth

-- ── The columns ──
-- they tell where the text under each node from i on begins and ends
abbrev pub Told : List Node → ℕ → ℕ → List ℕ → Type 0
Told ns n i t = (v : ℕ) → i ≤ v → v < n → (e : ℕ) → End ns v e → Bounds ns v e (word t n FIRST_TEXT v) (word t n LAST_TEXT v)
