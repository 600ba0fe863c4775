-- For any four inputs of an evaluation either one ground of refusal comes first, or they spell one library and one test.
use Prim.Native.Nat.{ℕ, ◌≤◌, ◌<◌}
use mathlib.Core.Path.{◌≡◌, ap}
use mathlib.Core.Logic.{◌⊎◌, inl, inr}
use mathlib.Core.List.{List}
use lib.ListN.{length}
use native.Mathlib.Omega.{arith}
use native.Mathlib.Decide.{dec_lt}
use Rattle.limits.specs.Limits.{scratch_words}
use Rattle.refusals.specs.Refusals.{Refusal, scratch_length, marks_length, other_comparison, no_such_node, stage, Earlier, First}
use Rattle.refusals.proofs.Refusals.{earlier_irrefl, stage_later}
use Rattle.xpath.specs.Syntax.{Test}
use Rattle.document_spec.specs.Library.{Node}
use Rattle.document_spec.specs.Verdict.{DocumentGround}
use Rattle.document_spec.specs.Verdict as Document
use Rattle.document_spec.proofs.Verdict.{document_judged}
use Rattle.document_spec.proofs.Verdict as Library
use Rattle.document_spec.proofs.Accepted as Spelled
use Rattle.rule_spec.specs.Verdict.{RuleGround}
use Rattle.rule_spec.specs.Verdict as Rule
use Rattle.rule_spec.proofs.Judged.{rule_judged}
use Rattle.rule_spec.proofs.Accepted as Grammar
use Rattle.evaluation_spec.specs.Buffers.{BufferGround, few_words, few_marks, Ground, Accepted}

-- ── The document's grounds come first, then the rule's, then those of the buffers; what 02 adds comes between and behind ──
pub document_stage : {s : List ℕ} {r : Refusal} → DocumentGround s r → stage r ≤ 2
document_stage (DocumentGround.long h) = omega arith
document_stage (DocumentGround.malformed h) = omega arith
document_stage (DocumentGround.range h g) = omega arith
document_stage (DocumentGround.breaks h) = omega arith
document_stage (DocumentGround.duplicate h) = omega arith

pub rule_stage : {s : List ℕ} {r : Refusal} → RuleGround s r → (2 < stage r) × (stage r < stage other_comparison)
rule_stage (RuleGround.long h) = omega arith
rule_stage (RuleGround.unread h) = omega arith
rule_stage (RuleGround.deep h) = omega arith
rule_stage (RuleGround.crowded h) = omega arith
rule_stage (RuleGround.heavy h) = omega arith

pub buffer_stage : {document : List ℕ} {words marks : ℕ} {r : Refusal} → BufferGround document words marks r → (stage other_comparison < stage r) × (stage r < stage no_such_node)
buffer_stage (few_words a h) = omega arith
buffer_stage (few_marks a h) = omega arith

module _ (document rule : List ℕ) (words marks : ℕ) where
  abbrev G : Refusal → Type 0
  G = Ground document rule words marks

  -- a ground that comes first among the document's comes first among all
  pub by_document : (r : Refusal) → First (DocumentGround document) r → First G r
  by_document r f = record { applies = inl f.applies; first = go }
    where
      go : (q : Refusal) → G q → ¬ Earlier q r
      go q (inl g) = f.first q g
      go q (inr (inl g)) = stage_later q r (let h = document_stage f.applies in let k = rule_stage g in omega arith)
      go q (inr (inr g)) = stage_later q r (let h = document_stage f.applies in let k = buffer_stage g in omega arith)

  module _ (ns : List Node) (library : Document.Accepts document ns) where
    -- so does the first of the rule's, if the document is accepted
    pub by_rule : (r : Refusal) → First (RuleGround rule) r → First G r
    by_rule r f = record { applies = inr (inl f.applies); first = go }
      where
        go : (q : Refusal) → G q → ¬ Earlier q r
        go q (inl g) = absurd (Library.accepted_unrefused document ns library q g)
        go q (inr (inl g)) = f.first q g
        go q (inr (inr g)) = stage_later q r (let h = rule_stage f.applies in let k = buffer_stage g in omega arith)

    module _ (T : Test) (test : Rule.Accepts rule T) where
      -- a ground of an accepted document and rule is one of the buffers'
      pub of_buffers : (A : Refusal → Type 0) → ((q : Refusal) → BufferGround document words marks q → A q) → (q : Refusal) → G q → A q
      of_buffers A f q (inl g) = absurd (Library.accepted_unrefused document ns library q g)
      of_buffers A f q (inr (inl g)) = absurd (Grammar.accepted_unrefused rule test q g)
      of_buffers A f q (inr (inr g)) = f q g

      pub short_scratch : words < scratch_words (length ns) → First G scratch_length
      short_scratch h = record { applies = inr (inr (few_words library h)); first = of_buffers (λ q. ¬ Earlier q scratch_length) late }
        where
          late : (q : Refusal) → BufferGround document words marks q → ¬ Earlier q scratch_length
          late q (few_words a k) e = earlier_irrefl scratch_length e
          late q (few_marks a k) e = stage_later marks_length scratch_length (omega arith) e

      pub few_marks_lem : scratch_words (length ns) ≤ words → marks < length ns → First G marks_length
      few_marks_lem room h = record { applies = inr (inr (few_marks library h)); first = of_buffers (λ q. ¬ Earlier q marks_length) late }
        where
          late : (q : Refusal) → BufferGround document words marks q → ¬ Earlier q marks_length
          late q (few_words {ns = ms} a k) e = let i : scratch_words (length ns) ≡ scratch_words (length ms) = ap (λ (l : List Node). scratch_words (length l)) (Spelled.accepts_one document ns ms library a) in omega arith
          late q (few_marks a k) e = earlier_irrefl marks_length e

      pub judge_buffers : Dec (words < scratch_words (length ns)) → Dec (marks < length ns) → ((r : Refusal) × First G r) ⊎ Accepted document rule words marks ns T
      judge_buffers (yes h) d = inl (scratch_length, short_scratch h)
      judge_buffers (no f) (yes h) = inl (marks_length, few_marks_lem (omega arith) h)
      judge_buffers (no f) (no g) = inr (record { library = library; test = test; room = omega arith; space = omega arith })

  -- ── The theorem ──
  pub judged : ((r : Refusal) × First G r) ⊎ ((ns : List Node) × (T : Test) × Accepted document rule words marks ns T)
  judged = by (document_judged document) (rule_judged rule)
    where
      rest : (ns : List Node) (T : Test) → ((r : Refusal) × First G r) ⊎ Accepted document rule words marks ns T
          → ((r : Refusal) × First G r) ⊎ ((ns : List Node) × (T : Test) × Accepted document rule words marks ns T)
      rest ns T (inl f) = inl f
      rest ns T (inr a) = inr (ns, T, a)

      by : ((r : Refusal) × First (DocumentGround document) r) ⊎ ((ns : List Node) × Document.Accepts document ns)
          → ((r : Refusal) × First (RuleGround rule) r) ⊎ ((T : Test) × Rule.Accepts rule T)
          → ((r : Refusal) × First G r) ⊎ ((ns : List Node) × (T : Test) × Accepted document rule words marks ns T)
      by (inl (r, f)) k = inl (r, by_document r f)
      by (inr (ns, a)) (inl (r, f)) = inl (r, by_rule ns a r f)
      by (inr (ns, a)) (inr (T, t)) = rest ns T (judge_buffers ns a T t (dec_lt words (scratch_words (length ns))) (dec_lt marks (length ns)))

  -- an accepted call is not refused
  pub accepted_unrefused : (ns : List Node) (T : Test) → Accepted document rule words marks ns T → (r : Refusal) → ¬ G r
  accepted_unrefused ns T a = of_buffers ns a.library T a.test (λ q. ⊥) none
    where
      none : (q : Refusal) → BufferGround document words marks q → ⊥
      none q (few_words {ns = ms} b k) = let i : scratch_words (length ns) ≡ scratch_words (length ms) = ap (λ (l : List Node). scratch_words (length l)) (Spelled.accepts_one document ns ms a.library b) in let r = a.room in omega arith
      none q (few_marks {ns = ms} b k) = let i : length ns ≡ length ms = ap (λ (l : List Node). length l) (Spelled.accepts_one document ns ms a.library b) in let r = a.space in omega arith

  -- the library and the test are the only ones
  pub one_library : (ns ms : List Node) (T U : Test) → Accepted document rule words marks ns T → Accepted document rule words marks ms U → (ns ≡ ms) × (T ≡ U)
  one_library ns ms T U a b = (Spelled.accepts_one document ns ms a.library b.library, Grammar.accepts_one rule a.test b.test)
