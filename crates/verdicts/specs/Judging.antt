-- The verdicts on the inputs of an evaluation, and of one by a list of values.
use Rattle.std.specs.Prelude.{ℕ, ◌≤◌, ◌<◌, ◌≡◌, ◌≢◌, Bool, true, false, List, length}
use Rattle.limits.specs.Limits.{scratch_words}
use Rattle.lists.specs.Lists.{All, Occurs}
use Rattle.refusals.specs.Refusals.{Refusal, scratch_length, marks_length, other_comparison, number, place, stage, First}
use Rattle.xpath.specs.Syntax.{Test, eq, compare, XPath}
use Rattle.document_spec.specs.Library.{Node}
use Rattle.document_spec.specs.Verdict as Document
use Rattle.rule_spec.specs.Verdict as Rule
use Rattle.evaluation_spec.specs.Buffers.{Ground, Accepted}
use Rattle.evaluation_spec.specs.Values.{ValuesGround, ValuesAccepted}

-- a number, a place and N: of the first ground and N 0, or no number and the N of the library
pub record Judges (document rule : List ℕ) (words marks : ℕ) (n p nodes : ℕ) : Type 0 where
  pub refused : (r : Refusal) → First (Ground document rule words marks) r → (n ≡ number r) × (p ≡ place r) × (nodes ≡ 0)
  pub accepted : (ns : List Node) (T : Test) → Accepted document rule words marks ns T → (n ≡ 0) × (p ≡ 0) × (nodes ≡ length ns)

-- the same, where the rule is to be an equality between two paths and a list stands for values
pub record JudgesValues (document rule values : List ℕ) (words marks : ℕ) (n p nodes : ℕ) : Type 0 where
  pub refused : (r : Refusal) → First (ValuesGround document rule values words marks) r → (n ≡ number r) × (p ≡ place r) × (nodes ≡ 0)
  pub accepted : (ns : List Node) (P R : XPath) → ValuesAccepted document rule values words marks ns P R → (n ≡ 0) × (p ≡ 0) × (nodes ≡ length ns)

-- ── In parts ──
-- of the document and the rule: the ground that comes first whatever the buffers are, or the library and the test
pub data JudgesTexts (document rule : List ℕ) (n p nodes : ℕ) : Type 0 where
  refused : (r : Refusal) → stage r < stage other_comparison → ((words marks : ℕ) → First (Ground document rule words marks) r)
      → n ≡ number r → p ≡ place r → nodes ≡ 0 → JudgesTexts document rule n p nodes
  accepted : (ns : List Node) (T : Test) → Document.Accepts document ns → Rule.Accepts rule T
      → n ≡ 0 → p ≡ 0 → nodes ≡ length ns → JudgesTexts document rule n p nodes

-- of the buffers, for N nodes
pub data JudgesBuffers (N words marks : ℕ) (n p nodes : ℕ) : Type 0 where
  short : words < scratch_words N → n ≡ number scratch_length → p ≡ place scratch_length → nodes ≡ 0 → JudgesBuffers N words marks n p nodes
  few : scratch_words N ≤ words → marks < N → n ≡ number marks_length → p ≡ place marks_length → nodes ≡ 0 → JudgesBuffers N words marks n p nodes
  enough : scratch_words N ≤ words → N ≤ marks → n ≡ 0 → p ≡ 0 → nodes ≡ N → JudgesBuffers N words marks n p nodes

-- whether a test is an equality between two paths
abbrev pub Equates : Test → Bool → Type 0
Equates T true = (P R : XPath) × (T ≡ compare eq P R)
Equates T false = (P R : XPath) → T ≢ compare eq P R

-- whether a list has numbers below N alone
abbrev pub HasNodes : List ℕ → ℕ → Bool → Type 0
HasNodes values N true = All (λ w. w < N) values
HasNodes values N false = (w : ℕ) × Occurs w values × (N ≤ w)
