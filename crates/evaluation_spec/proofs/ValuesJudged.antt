-- For any five inputs of an evaluation by a list of values either one ground of refusal comes first, or they spell one library and one equality, and the list has nodes alone.
use Prim.Native.Nat.{ℕ, ◌≤◌, ◌<◌}
use mathlib.Core.Path.{◌≡◌, refl, ap, subst}
use mathlib.Core.Logic.{◌⊎◌, inl, inr, ◌≢◌}
use mathlib.Core.List.{List, [], ◌∷◌}
use lib.ListN.{length}
use native.Mathlib.Omega.{arith}
use native.Mathlib.Decide.{dec_lt}
use Rattle.limits.specs.Limits.{scratch_words}
use Rattle.lists.specs.Lists.{All, Occurs}
use Rattle.lists.proofs.Lists.{all_occurs}
use Rattle.refusals.specs.Refusals.{Refusal, other_comparison, no_such_node, stage, Earlier, First}
use Rattle.refusals.proofs.Refusals.{earlier_irrefl, stage_later}
use Rattle.xpath.specs.Syntax.{eq, ne, lt, le, gt, ge, Test, named, not, and, or, compare, compare_to, at_least, XPath}
use Rattle.document_spec.specs.Library.{Node}
use Rattle.document_spec.specs.Verdict.{DocumentGround}
use Rattle.document_spec.specs.Verdict as Document
use Rattle.document_spec.proofs.Verdict.{document_judged}
use Rattle.document_spec.proofs.Accepted as Spelled
use Rattle.rule_spec.specs.Verdict.{RuleGround}
use Rattle.rule_spec.specs.Verdict as Rule
use Rattle.rule_spec.proofs.Judged.{rule_judged}
use Rattle.rule_spec.proofs.Accepted as Grammar
use Rattle.evaluation_spec.specs.Buffers.{Ground, Accepted}
use Rattle.evaluation_spec.specs.Values.{ListGround, no_equality, no_node, ValuesGround, ValuesAccepted}
use Rattle.evaluation_spec.proofs.Judged.{document_stage, rule_stage, buffer_stage, by_document, by_rule, of_buffers, judge_buffers, accepted_unrefused, one_library}

-- ── Whether a test is an equality between two paths ──
abbrev Equality : Test → Type 0
Equality T = ((P R : XPath) × (T ≡ compare eq P R)) ⊎ ((P R : XPath) → T ≢ compare eq P R)

equality : (T : Test) → Equality T
equality (named a) = inr (λ P R e. let z : ◌≡◌ {A = ℕ} 0 1 = cc in omega arith)
equality (not T) = inr (λ P R e. let z : ◌≡◌ {A = ℕ} 0 1 = cc in omega arith)
equality (and T U) = inr (λ P R e. let z : ◌≡◌ {A = ℕ} 0 1 = cc in omega arith)
equality (or T U) = inr (λ P R e. let z : ◌≡◌ {A = ℕ} 0 1 = cc in omega arith)
equality (compare eq P R) = inl (P, R, refl)
equality (compare ne P R) = inr (λ P R e. let z : ◌≡◌ {A = ℕ} 0 1 = cc in omega arith)
equality (compare lt P R) = inr (λ P R e. let z : ◌≡◌ {A = ℕ} 0 1 = cc in omega arith)
equality (compare le P R) = inr (λ P R e. let z : ◌≡◌ {A = ℕ} 0 1 = cc in omega arith)
equality (compare gt P R) = inr (λ P R e. let z : ◌≡◌ {A = ℕ} 0 1 = cc in omega arith)
equality (compare ge P R) = inr (λ P R e. let z : ◌≡◌ {A = ℕ} 0 1 = cc in omega arith)
equality (compare_to o P c) = inr (λ P R e. let z : ◌≡◌ {A = ℕ} 0 1 = cc in omega arith)
equality (at_least n P) = inr (λ P R e. let z : ◌≡◌ {A = ℕ} 0 1 = cc in omega arith)

-- ── Whether a list has nodes alone ──
nodes_or : (n : ℕ) (vs : List ℕ) → All (λ w. w < n) vs ⊎ ((w : ℕ) × Occurs w vs × (n ≤ w))
nodes_or n [] = inl tt
nodes_or n (v ∷ vs) = go (dec_lt v n) (nodes_or n vs)
  where
    go : Dec (v < n) → All (λ w. w < n) vs ⊎ ((w : ℕ) × Occurs w vs × (n ≤ w)) → ((v < n) × All (λ w. w < n) vs) ⊎ ((w : ℕ) × ((w ≡ v) ⊎ Occurs w vs) × (n ≤ w))
    go (no f) d = inr (v, inl refl, omega arith)
    go (yes h) (inl a) = inl (h, a)
    go (yes h) (inr (w, o, l)) = inr (w, inr o, l)

module _ (document rule values : List ℕ) (words marks : ℕ) where
  abbrev G : Refusal → Type 0
  G = Ground document rule words marks

  -- with those of the list
  abbrev H : Refusal → Type 0
  H = ValuesGround document rule values words marks

  -- ── The grounds of an evaluation, with those of the list among them ──
  -- what comes first without the list still does, if the list's grounds come later
  still_first : (r : Refusal) → First G r → ((q : Refusal) → ListGround document rule values q → stage r < stage q) → First H r
  still_first r f late = record { applies = inl f.applies; first = go }
    where
      go : (q : Refusal) → H q → ¬ Earlier q r
      go q (inl g) = f.first q g
      go q (inr l) = stage_later q r (late q l)

  -- so does a ground of the document or of the rule
  pub by_texts : (r : Refusal) → First G r → stage r < stage other_comparison → First H r
  by_texts r f h = still_first r f late
    where
      late : (q : Refusal) → ListGround document rule values q → stage r < stage q
      late q (no_equality a n) = h
      late q (no_node a o l) = omega arith

  module _ {P R : XPath} (test : Rule.Accepts rule (compare eq P R)) where
    equality_told : {T : Test} → Rule.Accepts rule T → ¬ ((Q S : XPath) → T ≢ compare eq Q S)
    equality_told a n = n P R (Grammar.accepts_one rule a test)

    ground_stage : {r : Refusal} → G r → stage r < stage no_such_node
    ground_stage (inl g) = let h = document_stage g in omega arith
    ground_stage (inr (inl g)) = let h = rule_stage g in omega arith
    ground_stage (inr (inr g)) = (buffer_stage g).1

    -- and any ground, where the rule is an equality
    pub by_equality : (r : Refusal) → First G r → First H r
    by_equality r f = still_first r f late
      where
        late : (q : Refusal) → ListGround document rule values q → stage r < stage q
        late q (no_equality a n) = absurd (equality_told a n)
        late q (no_node a o l) = ground_stage f.applies

    pub no_node_lem : {ns : List Node} → Accepted document rule words marks ns (compare eq P R) → {w : ℕ} → Occurs w values → length ns ≤ w → First H no_such_node
    no_node_lem {ns} a o l = record { applies = inr (no_node a.library o l); first = go }
      where
        go : (q : Refusal) → H q → ¬ Earlier q no_such_node
        go q (inl g) = absurd (accepted_unrefused document rule words marks ns (compare eq P R) a q g)
        go q (inr (no_equality b n)) = absurd (equality_told b n)
        go q (inr (no_node b p k)) = earlier_irrefl no_such_node

  pub other_rule : (ns : List Node) → Document.Accepts document ns → (T : Test) → Rule.Accepts rule T → ((P R : XPath) → T ≢ compare eq P R) → First H other_comparison
  other_rule ns library T test n = record { applies = inr (no_equality test n); first = go }
    where
      go : (q : Refusal) → H q → ¬ Earlier q other_comparison
      go q (inl g) = of_buffers document rule words marks ns library T test (λ q. ¬ Earlier q other_comparison) (λ q b. stage_later q other_comparison (buffer_stage b).0) q g
      go q (inr (no_equality a m)) = earlier_irrefl other_comparison
      go q (inr (no_node a o l)) = stage_later no_such_node other_comparison (omega arith)

  -- ── The theorem ──
  abbrev Judged : Type 0
  Judged = ((r : Refusal) × First H r) ⊎ ((ns : List Node) × (P R : XPath) × ValuesAccepted document rule values words marks ns P R)

  by_list : (ns : List Node) (P R : XPath) → Accepted document rule words marks ns (compare eq P R) → Judged
  by_list ns P R a = go (nodes_or (length ns) values)
    where
      go : All (λ w. w < length ns) values ⊎ ((w : ℕ) × Occurs w values × (length ns ≤ w)) → Judged
      go (inl h) = inr (ns, P, R, record { call = a; nodes = h })
      go (inr (w, o, l)) = inl (no_such_node, no_node_lem a.test a o l)

  pub values_judged : Judged
  values_judged = by (document_judged document) (rule_judged rule)
    where
      buffers : (ns : List Node) (P R : XPath) → Rule.Accepts rule (compare eq P R) → ((r : Refusal) × First G r) ⊎ Accepted document rule words marks ns (compare eq P R) → Judged
      buffers ns P R t (inl (r, f)) = inl (r, by_equality t r f)
      buffers ns P R t (inr a) = by_list ns P R a

      told : (ns : List Node) → Document.Accepts document ns → (T : Test) → Rule.Accepts rule T → Equality T → Judged
      told ns a T t (inr n) = inl (other_comparison, other_rule ns a T t n)
      told ns a T t (inl (P, R, e)) =
          let u = subst (Rule.Accepts rule) e t in
          buffers ns P R u (judge_buffers document rule words marks ns a (compare eq P R) u (dec_lt words (scratch_words (length ns))) (dec_lt marks (length ns)))

      by : ((r : Refusal) × First (DocumentGround document) r) ⊎ ((ns : List Node) × Document.Accepts document ns) → ((r : Refusal) × First (RuleGround rule) r) ⊎ ((T : Test) × Rule.Accepts rule T) → Judged
      by (inl (r, f)) k = inl (r, by_texts r (by_document document rule words marks r f) (let h = document_stage f.applies in omega arith))
      by (inr (ns, a)) (inl (r, f)) = inl (r, by_texts r (by_rule document rule words marks ns a r f) (rule_stage f.applies).1)
      by (inr (ns, a)) (inr (T, t)) = told ns a T t (equality T)

  -- an accepted call is not refused
  pub values_unrefused : (ns : List Node) (P R : XPath) → ValuesAccepted document rule values words marks ns P R → (r : Refusal) → ¬ H r
  values_unrefused ns P R a r (inl g) = accepted_unrefused document rule words marks ns (compare eq P R) a.call r g
  values_unrefused ns P R a r (inr (no_equality b n)) = equality_told a.call.test b n
  values_unrefused ns P R a r (inr (no_node {ns = ms} {w = w} b o l)) =
      let e : length ns ≡ length ms = ap (λ (l : List Node). length l) (Spelled.accepts_one document ns ms a.call.library b) in
      let h : w < length ns = (all_occurs _ values).0 a.nodes w o in
      omega arith

  -- the library and the paths are the only ones
  pub one_equality : (ns ms : List Node) (P R Q S : XPath) → ValuesAccepted document rule values words marks ns P R → ValuesAccepted document rule values words marks ms Q S
      → (ns ≡ ms) × (P ≡ Q) × (R ≡ S)
  one_equality ns ms P R Q S a b =
      let (i, e) = one_library document rule words marks ns ms (compare eq P R) (compare eq Q S) a.call b.call in
      let p : P ≡ Q = cc in let r : R ≡ S = cc in
      (i, p, r)
