-- The buffers that a call lends, and all the grounds on which it is refused: 01, buffers, and the table.
use Rattle.std.specs.Prelude.{ℕ, ◌≤◌, ◌<◌, ◌⊎◌, List, length}
use Rattle.limits.specs.Limits.{scratch_words}
use Rattle.refusals.specs.Refusals.{Refusal, scratch_length, marks_length}
use Rattle.xpath.specs.Syntax.{Test}
use Rattle.document_spec.specs.Library.{Node}
use Rattle.document_spec.specs.Verdict.{DocumentGround}
use Rattle.document_spec.specs.Verdict as Document
use Rattle.rule_spec.specs.Verdict.{RuleGround}
use Rattle.rule_spec.specs.Verdict as Rule

-- the grounds that judge the buffers, where the document spells a library
pub data BufferGround (document : List ℕ) (words marks : ℕ) : Refusal → Type 0 where
  few_words : {ns : List Node} → Document.Accepts document ns → words < scratch_words (length ns) → BufferGround document words marks scratch_length
  few_marks : {ns : List Node} → Document.Accepts document ns → marks < length ns → BufferGround document words marks marks_length

module _ (document rule : List ℕ) (words marks : ℕ) where
  -- the grounds that judge an evaluation
  abbrev pub Ground : Refusal → Type 0
  Ground r = DocumentGround document r ⊎ RuleGround rule r ⊎ BufferGround document words marks r

  -- the call is accepted: the document spells the library ns, the rule reads as T, and the buffers are long enough
  pub record Accepted (ns : List Node) (T : Test) : Type 0 where
    pub library : Document.Accepts document ns
    pub test : Rule.Accepts rule T
    pub room : scratch_words (length ns) ≤ words
    pub space : length ns ≤ marks
