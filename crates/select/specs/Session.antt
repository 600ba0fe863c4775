-- What the program answers to an input: 01, the program.
use Rattle.std.specs.Prelude.{ℕ, ◌-◌, ◌≤◌, ◌<◌, List, length, take, drop, replicate}
use Rattle.limits.specs.Limits.{program_input, program_words, program_marks}
use Rattle.refusals.specs.Refusals.{document_length}
use Rattle.streams.specs.Input.{Parts}
use Rattle.evaluation_spec.specs.Evaluation.{Outcome, Refused, SnippetEvaluation}

-- the bytes from b on, in the form in which they are lent
abbrev pub rest : ℕ → List ℕ → List ℕ
rest b s = take (length s - b) (drop b s)

-- for whatever words and marks are lent
pub record Answered (input scratch marks : List ℕ) (o : Outcome) (scratch' marks' : List ℕ) : Type 0 where
  -- "Up to 65,536 bytes are read; longer input prints number 1."
  pub longer : program_input < length input → Refused document_length scratch marks o scratch' marks'
  -- the rule's part and the document's part of the input, and "the snippet evaluation" of them
  pub evaluated : length input ≤ program_input → (rule document : List ℕ) → Parts input rule document → SnippetEvaluation document rule scratch marks o scratch' marks'

-- "The program lends 32,768 words and 4,096 marks": all of them 0
abbrev pub Session : (input : List ℕ) → Outcome → (marks : List ℕ) → Type 0
Session input o marks = (scratch : List ℕ) × Answered input (replicate program_words 0) (replicate program_marks 0) o scratch marks
