-- The compared value of an element: from the first to the last text in it that is not blank.
use Rattle.std.specs.Prelude.{ℕ, suc, ◌≤◌, ◌<◌, ◌≡◌, ◌⊎◌, List, [], ◌++◌, length}
use Rattle.std.proofs.Math.Seq.{slice}
use Rattle.lists.specs.Blanks.{trim, trim_start, trim_end}
use Rattle.document_spec.specs.Library.{Node, element, at}
use Rattle.document_spec.specs.Binary.{text_of, compared_of}
use Rattle.document_spec.specs.Intervals.{texts}
use Rattle.layout.specs.Words.{NONE}
use Rattle.texts.specs.Texts.{Content, Bounds}

-- the text inside node v begins at f and ends at l
pub record Inner (ns : List Node) (v f l : ℕ) : Type 0 where
  pub end : ℕ
  pub content : Content ns v end
  pub bounds : Bounds ns (suc v) end f l

-- and v is an element
pub record Inside (ns : List Node) (v f l : ℕ) : Type 0 where
  pub node : v < length ns
  pub kind : (at ns v).kind ≡ element
  pub inner : Inner ns v f l

-- what comes behind the text of node f up to that of node l: the texts between them, and that of l without the blanks at its end
abbrev pub up_to : List Node → ℕ → ℕ → List ℕ
up_to ns f l = texts (slice (suc f) l ns) ++ trim_end (text_of (at ns l))

-- node u has text that is not blank
abbrev pub Speaks : List Node → ℕ → Type 0
Speaks ns u = 0 < length (trim (text_of (at ns u)))

-- the compared value of node v begins in the text of node f and ends in that of a later node l
pub record Several (ns : List Node) (v f l : ℕ) : Type 0 where
  pub order : f < l
  pub within : l < length ns
  pub begins : Speaks ns f
  pub ends : Speaks ns l
  pub whole : compared_of ns v ≡ trim_start (text_of (at ns f)) ++ up_to ns f l

-- ── The next text ──
-- none of the nodes from a up to b has text
abbrev pub Mute : List Node → ℕ → ℕ → Type 0
Mute ns a b = (u : ℕ) → a ≤ u → u < b → text_of (at ns u) ≡ []

-- x is the first node from a on that has text
pub record FirstText (ns : List Node) (a x : ℕ) : Type 0 where
  pub after : a ≤ x
  pub within : x < length ns
  pub text : 0 < length (text_of (at ns x))
  pub between : Mute ns a x

-- the same, or no node where none has text
abbrev pub Next : List Node → ℕ → ℕ → Type 0
Next ns a x = FirstText ns a x ⊎ ((x ≡ NONE) × Mute ns a (length ns))
