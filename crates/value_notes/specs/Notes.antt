-- What is noted of the compared value of each node: where its bytes lie, the blanks around them, and the next text.
use Rattle.std.specs.Prelude.{ℕ, suc, ◌+◌, ◌*◌, ◌-◌, ◌/◌, ◌%◌, ◌≤◌, ◌<◌, ◌≡◌, ◌⊎◌, List, [], ◌∷◌, length}
use Rattle.limits.specs.Limits.{word_values, value_bytes}
use Rattle.document_spec.specs.Library.{Node, text, at}
use Rattle.document_spec.specs.Binary.{string_of, compared_of}
use Rattle.document_spec.specs.Verdict.{Accepts}
use Rattle.document_spec.specs.Intervals.{End}
use Rattle.document_lines.specs.declared.entries.Span.{Span}
use Rattle.layout.specs.Table.{COLUMNS}
use Rattle.layout.specs.Values.{LOW, HIGH, LENGTH, BLANKS, NEXT}
use Rattle.layout.specs.Words.{NONE, cell, word, Within}
use Rattle.blanks.specs.Trimmed.{Lies, Trimmed}
use Rattle.table.specs.Tabled.{Tabled}
use Rattle.texts.specs.Texts.{Bounds, Told}
use Rattle.value_notes.specs.Values.{Several, Next}
use Rattle.value_notes.specs.declared.notes.Note.{Note}

-- the note in the columns of node v
abbrev pub note_at : List ℕ → ℕ → ℕ → Note
note_at t n v = record { low = word t n LOW v; high = word t n HIGH v; length = word t n LENGTH v; blanks = word t n BLANKS v }

-- what is written for it
abbrev pub noted : ℕ → ℕ → Note → List (ℕ × ℕ)
noted n v x = (cell n BLANKS v, x.blanks) ∷ (cell n LENGTH v, x.length) ∷ (cell n HIGH v, x.high) ∷ (cell n LOW v, x.low) ∷ []

-- each number is a word
abbrev pub Words : Note → Type 0
Words x = (x.low < word_values) × (x.high < word_values) × (x.length < word_values) × (x.blanks < word_values)

-- ── What they tell ──
-- where the bytes of a note with a length begin
abbrev pub start : Note → ℕ
start x = x.low + word_values * x.high

abbrev pub span : Note → Span
span x = record { from = start x; to = start x + x.length }

-- the blanks in front of them and behind them, in one word
abbrev pub in_front : Note → ℕ
in_front x = x.blanks % (value_bytes + 1)

abbrev pub at_end : Note → ℕ
at_end x = x.blanks / (value_bytes + 1)

-- with these blanks
abbrev pub padded : Note → Span
padded x = record { from = start x - in_front x; to = start x + x.length + at_end x }

-- the compared value of node v lies in one span; or it has no length, and goes from the text of one node to that of another
abbrev pub Held : List ℕ → List Node → ℕ → Note → Type 0
Held s ns v x =
    ((x.length < NONE) × Lies s (span x) (compared_of ns v))
    ⊎ ((x.length ≡ NONE) × Several ns v x.low x.high)

-- the text of node v lies where x says, with its blanks
pub record Padded (s : List ℕ) (ns : List Node) (v : ℕ) (x : Note) : Type 0 where
  pub short : x.length < NONE
  pub room : in_front x ≤ start x
  pub lies : Lies s (padded x) (at ns v).value
  pub trimmed : Trimmed s (padded x) (span x)

-- node v of an accepted library is text or an attribute, its value is the span p, and q is p without the blanks at its ends
pub record Own (s : List ℕ) (ns : List Node) (v : ℕ) (p q : Span) : Type 0 where
  pub accepts : Accepts s ns
  pub node : v < length ns
  pub own : string_of ns v ≡ (at ns v).value
  pub lies : Lies s p (at ns v).value
  pub trimmed : Trimmed s p q

-- x is right for node v
pub record Valued (s : List ℕ) (ns : List Node) (v : ℕ) (x : Note) : Type 0 where
  pub words : Words x
  pub held : Held s ns v x
  pub text : (at ns v).kind ≡ text → Padded s ns v x

-- f, l and x are right for the columns of node v
pub record Seen (s : List ℕ) (ns : List Node) (v f l : ℕ) (x : Note) : Type 0 where
  pub texts : (e : ℕ) → End ns v e → Bounds ns v e f l
  pub value : Valued s ns v x

-- t begins with the table of a tree, in which the columns of the texts and of the values are filled from node i on
pub record Marked (s : List ℕ) (n i : ℕ) (t : List ℕ) : Type 0 where
  pub tabled : Tabled s n t
  pub told : (ns : List Node) → Accepts s ns → Told ns n i t
  pub valued : (ns : List Node) → Accepts s ns → (v : ℕ) → i ≤ v → v < n → Valued s ns v (note_at t n v)
  pub next : (ns : List Node) → Accepts s ns → (v : ℕ) → i ≤ v → v < n → Next ns (suc v) (word t n NEXT v)

-- ── What stays of it ──
-- t begins with the table of a tree, in which the notes of all values are filled
pub record Annotated (s : List ℕ) (n : ℕ) (t : List ℕ) : Type 0 where
  pub tabled : Tabled s n t
  pub valued : (ns : List Node) → Accepts s ns → (v : ℕ) → v < n → Valued s ns v (note_at t n v)
  pub next : (ns : List Node) → Accepts s ns → (v : ℕ) → v < n → Next ns (suc v) (word t n NEXT v)

-- nothing but the columns behind the ranks has changed
abbrev pub Noted : ℕ → List ℕ → List ℕ → Type 0
Noted n t t' = Within n LOW COLUMNS t t'
