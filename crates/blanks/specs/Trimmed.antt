-- Bytes where they stand: those of a span, and a span without the blanks at its ends.
use Rattle.std.specs.Prelude.{ℕ, ◌-◌, ◌≤◌, ◌<◌, ◌≡◌, ◌≢◌, List, length, get_or}
use Rattle.std.proofs.Math.Seq.{slice}
use Rattle.lists.specs.Blanks.{blank, Blanks}
use Rattle.document_lines.specs.declared.entries.Span.{Span}

-- the bytes of the span p
abbrev pub between : List ℕ → Span → List ℕ
between s p = slice p.from p.to s

-- the span p has the bytes bs, and none behind the end of s
pub record Lies (s : List ℕ) (p : Span) (bs : List ℕ) : Type 0 where
  pub within : p.to ≤ length s
  pub bytes : between s p ≡ bs

-- i is the first byte of p that is no blank, or the end of p
pub record Skipped (s : List ℕ) (p : Span) (i : ℕ) : Type 0 where
  pub starts : p.from ≤ i
  pub ends : i ≤ p.to
  pub front : Blanks (slice p.from i s)
  pub first : i < p.to → get_or s i 0 ≢ blank

-- q is p without the blanks at both ends
pub record Trimmed (s : List ℕ) (p q : Span) : Type 0 where
  pub starts : p.from ≤ q.from
  pub order : q.from ≤ q.to
  pub ends : q.to ≤ p.to
  pub front : Blanks (slice p.from q.from s)
  pub behind : Blanks (slice q.to p.to s)
  pub first : q.from < q.to → get_or s q.from 0 ≢ blank
  pub last : q.from < q.to → get_or s (q.to - 1) 0 ≢ blank
