-- The contract of an evaluation: the record that it returns, and every mark and every word of scratch afterwards, for refused calls too.
use Rattle.std.specs.Prelude.{ℕ, ◌<◌, ◌≡◌, ◌⊎◌, List, length, get_or, take, drop, replicate}
use Rattle.limits.specs.Limits.{scratch_words}
use Rattle.lists.specs.Lists.{Number}
use Rattle.refusals.specs.Refusals.{Refusal, number, place, First}
use Rattle.xpath.specs.Syntax.{Test}
use Rattle.xpath.specs.Tree.{Tree}
use Rattle.xpath.specs.Meaning.{Holds}
use Rattle.snippets.specs.Count.{SnippetCount}
use Rattle.document_spec.specs.Library.{Node}
use Rattle.document_spec.specs.Binary.{tree_of}
use Rattle.evaluation_spec.specs.Buffers.{Ground, Accepted}

pub record Outcome : Type 0 where
  pub number : ℕ
  pub place : ℕ
  pub selected : ℕ
  pub snippets : ℕ

-- a rule selects v if its test holds at v
abbrev pub Selects : List Node → Test → ℕ → Type 0
Selects ns T v = (v < length ns) × Holds (tree_of ns) T v

-- after a refused call: zero counts, and the marks and the scratch hold what they held before
pub record Refused (r : Refusal) (scratch marks : List ℕ) (o : Outcome) (scratch' marks' : List ℕ) : Type 0 where
  pub outcome : o ≡ record { number = number r; place = place r; selected = 0; snippets = 0 }
  pub same_scratch : scratch' ≡ scratch
  pub same_marks : marks' ≡ marks

-- after an accepted call; Snippets says what the snippet count is
pub record Selected (Snippets : Tree → Test → ℕ → Type 0) (ns : List Node) (T : Test) (scratch marks : List ℕ) (o : Outcome) (scratch' marks' : List ℕ) : Type 0 where
  pub number : o.number ≡ 0
  pub place : o.place ≡ 0
  pub selected : Number (Selects ns T) o.selected
  pub snippets : Snippets (tree_of ns) T o.snippets
  -- the first N marks are 0 or 1, and later ones unchanged
  pub marked : (v : ℕ) → v < length ns → (Selects ns T v × (get_or marks' v 0 ≡ 1)) ⊎ ((¬ Selects ns T v) × (get_or marks' v 0 ≡ 0))
  pub later_marks : drop (length ns) marks' ≡ drop (length ns) marks
  pub as_many_marks : length marks' ≡ length marks
  -- the first words are 0, and later ones unchanged
  pub cleared : take (scratch_words (length ns)) scratch' ≡ replicate (scratch_words (length ns)) 0
  pub later_words : drop (scratch_words (length ns)) scratch' ≡ drop (scratch_words (length ns)) scratch

-- refused on the first ground in the written order, or accepted
pub record Evaluation (Snippets : Tree → Test → ℕ → Type 0) (document rule scratch marks : List ℕ) (o : Outcome) (scratch' marks' : List ℕ) : Type 0 where
  pub refused : (r : Refusal) → First (Ground document rule (length scratch) (length marks)) r → Refused r scratch marks o scratch' marks'
  pub accepted : (ns : List Node) (T : Test) → Accepted document rule (length scratch) (length marks) ns T → Selected Snippets ns T scratch marks o scratch' marks'

-- the plain evaluation reports 0
abbrev pub NoSnippets : Tree → Test → ℕ → Type 0
NoSnippets t T n = n ≡ 0

-- demand 2
abbrev pub PlainEvaluation : (document rule scratch marks : List ℕ) → Outcome → (scratch' marks' : List ℕ) → Type 0
PlainEvaluation document rule scratch marks o scratch' marks' = Evaluation NoSnippets document rule scratch marks o scratch' marks'

-- demand 3
abbrev pub SnippetEvaluation : (document rule scratch marks : List ℕ) → Outcome → (scratch' marks' : List ℕ) → Type 0
SnippetEvaluation document rule scratch marks o scratch' marks' = Evaluation SnippetCount document rule scratch marks o scratch' marks'
