-- What is judged in the written order gives the first ground of an evaluation.
use Rattle.std.specs.Prelude.{Result, Ok, Err, IsErrAnd}
use Prim.Native.Nat.{ℕ, ◌≤◌, ◌<◌}
use mathlib.Core.Path.{◌≡◌, refl, sym, ap, ◌∙◌, subst}
use mathlib.Core.Logic.{◌⊎◌, inl, inr, ◌≢◌}
use mathlib.Core.List.{List}
use lib.ListN.{length}
use native.Mathlib.Omega.{arith}
use Rattle.refusals.specs.Refusals.{Refusal, scratch_length, marks_length, number, place, First}
use Rattle.refusals.proofs.Refusals.{first_one}
use Rattle.xpath.specs.Syntax.{Test}
use Rattle.document_spec.specs.Library.{Node}
use Rattle.document_spec.specs.Verdict.{DocumentGround}
use Rattle.document_spec.specs.Verdict as Document
use Rattle.document_spec.proofs.Verdict.{document_judged}
use Rattle.rule_spec.specs.Verdict.{RuleGround}
use Rattle.rule_spec.specs.Verdict as Rule
use Rattle.rule_spec.proofs.Judged.{rule_judged}
use Rattle.evaluation_spec.specs.Buffers.{Ground, Accepted}
use Rattle.evaluation_spec.proofs.Judged.{document_stage, rule_stage, by_document, by_rule, short_scratch, few_marks_lem, judged, accepted_unrefused, one_library}
use Rattle.evaluation_spec.proofs.Agreement.{number_positive}
use Rattle.document.specs.declared.Refusal as DocumentRefusal
use Rattle.document.specs.Check as DocumentCheck
use Rattle.rule.specs.declared.Refusal as RuleRefusal
use Rattle.rule.specs.Check as RuleCheck
use Rattle.verdicts.specs.declared.Refusal as Code
use Rattle.verdicts.specs.declared.Refusal.TheVariants as code
use Rattle.verdicts.specs.Answers.{ground_of, number_of, place_of, nodes_of}
use Rattle.verdicts.proofs.Verdicts.{checked_by}
use Rattle.verdicts.proofs.RuleVerdicts.{rule_checked_by}
use Rattle.verdicts.specs.Judging.{Judges, JudgesTexts, refused, accepted, JudgesBuffers, short, few, enough}

-- ── A refusal ──
-- each has a number
pub positive : (e : Code.Refusal) → number (ground_of e) ≢ 0
positive e z = let h = number_positive (ground_of e) in omega arith

-- what `?` hands on is what it was given
pub handed_on : (P : ℕ → ℕ → ℕ → Type 0) (e : Code.Refusal) (r : Result ℕ Code.Refusal) → IsErrAnd r (λ d. d ≡ e) → P (number (ground_of e)) (place (ground_of e)) 0
    → P (number_of r) (place_of r) (nodes_of r)
handed_on P e (Ok n) q h = absurd q
handed_on P e (Err d) q h = subst (λ d. P (number (ground_of d)) (place (ground_of d)) 0) (sym q) h

-- ── What the two checks say by their number ──
document_accepted : {s : List ℕ} {n p nodes : ℕ} → Document.Checked s n p nodes → n ≡ 0 → (ns : List Node) × Document.Accepts s ns × (nodes ≡ length ns)
document_accepted {s} {n} {p} {nodes} c z = go (document_judged s)
  where
    go : ((r : Refusal) × First (DocumentGround s) r) ⊎ ((ns : List Node) × Document.Accepts s ns) → (ns : List Node) × Document.Accepts s ns × (nodes ≡ length ns)
    go (inl (r, f)) = let e = (c.refused r f).0 in let h = number_positive r in absurd (omega arith)
    go (inr (ns, a)) = (ns, a, (c.accepted ns a).2)

document_refused : {s : List ℕ} {n p nodes : ℕ} → Document.Checked s n p nodes → n ≢ 0 → (r : Refusal) × First (DocumentGround s) r × (n ≡ number r) × (p ≡ place r)
document_refused {s} {n} {p} c z = go (document_judged s)
  where
    go : ((r : Refusal) × First (DocumentGround s) r) ⊎ ((ns : List Node) × Document.Accepts s ns) → (r : Refusal) × First (DocumentGround s) r × (n ≡ number r) × (p ≡ place r)
    go (inl (r, f)) = (r, f, (c.refused r f).0, (c.refused r f).1)
    go (inr (ns, a)) = absurd (z (c.accepted ns a).0)

rule_accepted : {s : List ℕ} {n p : ℕ} → Rule.Checked s n p → n ≡ 0 → (T : Test) × Rule.Accepts s T
rule_accepted {s} {n} {p} c z = go (rule_judged s)
  where
    go : ((r : Refusal) × First (RuleGround s) r) ⊎ ((T : Test) × Rule.Accepts s T) → (T : Test) × Rule.Accepts s T
    go (inl (r, f)) = let e = (c.refused r f).0 in let h = number_positive r in absurd (omega arith)
    go (inr a) = a

rule_refused_lem : {s : List ℕ} {n p : ℕ} → Rule.Checked s n p → n ≢ 0 → (r : Refusal) × First (RuleGround s) r × (n ≡ number r) × (p ≡ place r)
rule_refused_lem {s} {n} {p} c z = go (rule_judged s)
  where
    go : ((r : Refusal) × First (RuleGround s) r) ⊎ ((T : Test) × Rule.Accepts s T) → (r : Refusal) × First (RuleGround s) r × (n ≡ number r) × (p ≡ place r)
    go (inl (r, f)) = (r, f, (c.refused r f).0, (c.refused r f).1)
    go (inr (T, a)) = absurd (z (c.accepted T a).0)

-- ── The document and the rule ──
module _ {document rule : List ℕ} where
  pub by_first : {n p nodes : ℕ} → Document.Checked document n p nodes → n ≢ 0 → JudgesTexts document rule n p 0
  by_first c z =
      let (r, f, e, g) = document_refused c z in
      refused r (let h = document_stage f.applies in omega arith) (λ words marks. by_document document rule words marks r f) e g refl

  module _ {n p nodes : ℕ} (c : Document.Checked document n p nodes) (z : n ≡ 0) {m q : ℕ} (d : Rule.Checked rule m q) where
    pub by_second : m ≢ 0 → JudgesTexts document rule m q 0
    by_second y =
        let (ns, a, _) = document_accepted c z in
        let (r, f, e, g) = rule_refused_lem d y in
        refused r (rule_stage f.applies).1 (λ words marks. by_rule document rule words marks ns a r f) e g refl

    pub by_both : m ≡ 0 → JudgesTexts document rule 0 0 nodes
    by_both y =
        let (ns, a, e) = document_accepted c z in
        let (T, b) = rule_accepted d y in
        accepted ns T a b refl refl e

  -- the same, of what the checks hand back
  pub first_refused : (e : DocumentRefusal.Refusal) → DocumentCheck.Judged document (Err e) → JudgesTexts document rule (number (ground_of (code.Document e))) (place (ground_of (code.Document e))) 0
  first_refused d h = by_first (checked_by document (Err d) h) (positive (code.Document d))

  module _ {nodes : ℕ} (c : DocumentCheck.Judged document (Ok nodes)) where
    pub second_refused : (e : RuleRefusal.Refusal) → RuleCheck.Judged rule (Err e) → JudgesTexts document rule (number (ground_of (code.Rule e))) (place (ground_of (code.Rule e))) 0
    second_refused d h = by_second (checked_by document (Ok nodes) c) refl (rule_checked_by rule (Err d) h) (positive (code.Rule d))

    pub both_accepted : {u : Unit {0}} → RuleCheck.Judged rule (Ok u) → JudgesTexts document rule 0 0 nodes
    both_accepted {u} h = by_both (checked_by document (Ok nodes) c) refl (rule_checked_by rule (Ok u) h) refl

  module _ {n p N : ℕ} (texts : JudgesTexts document rule n p N) (z : n ≡ 0) where
    pub texts_accepted : (ns : List Node) × (T : Test) × Document.Accepts document ns × Rule.Accepts rule T × (N ≡ length ns)
    texts_accepted = go texts
      where
        go : JudgesTexts document rule n p N → (ns : List Node) × (T : Test) × Document.Accepts document ns × Rule.Accepts rule T × (N ≡ length ns)
        go (refused r h f e g k) = let i = number_positive r in absurd (omega arith)
        go (accepted ns T a b x y e) = (ns, T, a, b, e)

    -- the words that an accepted document needs can be told
    pub needed_told : (0 < N) × (N ≤ 4096)
    needed_told = let (ns, T, a, b, e) = texts_accepted in let h = a.legal.some in let k = a.legal.few in (omega arith, omega arith)

    -- and there is a rule to look at
    pub rule_told : (T : Test) × Rule.Accepts rule T
    rule_told = let (ns, T, a, b, e) = texts_accepted in (T, b)

-- ── The buffers ──
-- the first of the grounds is told
abbrev pub Tells : (Refusal → Type 0) → ℕ → ℕ → ℕ → Type 0
Tells G n p nodes = (r : Refusal) × First G r × (n ≡ number r) × (p ≡ place r) × (nodes ≡ 0)

pub tells_one : {G : Refusal → Type 0} {n p nodes : ℕ} → Tells G n p nodes → (q : Refusal) → First G q → (n ≡ number q) × (p ≡ place q) × (nodes ≡ 0)
tells_one {G} (r, f, e, g, k) q h = let i = first_one G r q f h in (e ∙ ap number i, g ∙ ap place i, k)

module _ {document rule : List ℕ} {words marks : ℕ} where
  pub buffers : {ns : List Node} {T : Test} → Document.Accepts document ns → Rule.Accepts rule T → {N n p nodes : ℕ} → N ≡ length ns → JudgesBuffers N words marks n p nodes
      → Tells (Ground document rule words marks) n p nodes ⊎ (Accepted document rule words marks ns T × (n ≡ 0) × (p ≡ 0) × (nodes ≡ length ns))
  buffers {ns} {T} a b e (short h i j k) = inl (scratch_length, short_scratch document rule words marks ns a T b (rw (sym e) h), i, j, k)
  buffers {ns} {T} a b e (few h l i j k) = inl (marks_length, few_marks_lem document rule words marks ns a T b (rw (sym e) h) (rw (sym e) l), i, j, k)
  buffers a b e (enough h l i j k) = inr (record { library = a; test = b; room = rw (sym e) h; space = rw (sym e) l }, i, j, k ∙ e)

  -- ── An evaluation ──
  judges_refused : {n p nodes : ℕ} → Tells (Ground document rule words marks) n p nodes → Judges document rule words marks n p nodes
  judges_refused t = record { refused = tells_one t; accepted = λ ns T a. absurd (accepted_unrefused document rule words marks ns T a t.0 t.1.applies) }

  pub by_texts : {n p nodes : ℕ} → JudgesTexts document rule n p nodes → n ≢ 0 → Judges document rule words marks n p nodes
  by_texts (refused r h f e g k) z = judges_refused (r, f words marks, e, g, k)
  by_texts (accepted ns T a b x y e) z = absurd (z x)

  pub by_buffers : {n p N : ℕ} → JudgesTexts document rule n p N → n ≡ 0 → {m q nodes : ℕ} → JudgesBuffers N words marks m q nodes → Judges document rule words marks m q nodes
  by_buffers t z {m} {q} {nodes} d = let (ns, T, a, b, e) = texts_accepted t z in go ns T (buffers a b e d)
    where
      go : (ns : List Node) (T : Test) → Tells (Ground document rule words marks) m q nodes ⊎ (Accepted document rule words marks ns T × (m ≡ 0) × (q ≡ 0) × (nodes ≡ length ns)) → Judges document rule words marks m q nodes
      go ns T (inl t) = judges_refused t
      go ns T (inr (c, i, j, k)) = record {
        refused = λ r f. absurd (accepted_unrefused document rule words marks ns T c r f.applies);
        accepted = λ ms U b. (i, j, k ∙ ap length (one_library document rule words marks ns ms T U c b).0);
      }

  -- ── What a judgement says by its number ──
  pub judged_accepted : {n p nodes : ℕ} → Judges document rule words marks n p nodes → n ≡ 0
      → (ns : List Node) × (T : Test) × Accepted document rule words marks ns T × (length ns ≡ nodes)
  judged_accepted {n} {p} {nodes} j z = go (judged document rule words marks)
    where
      go : ((r : Refusal) × First (Ground document rule words marks) r) ⊎ ((ns : List Node) × (T : Test) × Accepted document rule words marks ns T)
          → (ns : List Node) × (T : Test) × Accepted document rule words marks ns T × (length ns ≡ nodes)
      go (inl (r, f)) = let q = (j.refused r f).0 in let h = number_positive r in absurd (omega arith)
      go (inr (ns, T, a)) = (ns, T, a, sym (j.accepted ns T a).2)
