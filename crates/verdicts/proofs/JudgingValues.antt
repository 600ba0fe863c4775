-- What is judged in the written order gives the first ground of an evaluation by a list of values.
use Prim.Native.Nat.{ℕ, ◌<◌}
use mathlib.Core.Path.{◌≡◌, refl, sym, ap, ◌∙◌, subst}
use mathlib.Core.Logic.{◌⊎◌, inl, inr, ◌≢◌}
use mathlib.Core.Bool.{Bool, true, false, not, not-not}
use mathlib.Core.List.{List}
use lib.ListN.{length}
use native.Mathlib.Omega.{arith}
use Rattle.lists.specs.Lists.{All}
use Rattle.refusals.specs.Refusals.{Refusal, other_comparison, no_such_node, First}
use Rattle.xpath.specs.Syntax.{Test, eq, compare, XPath}
use Rattle.document_spec.specs.Library.{Node}
use Rattle.rule_spec.specs.Verdict as Rule
use Rattle.evaluation_spec.specs.Buffers.{Ground, Accepted}
use Rattle.evaluation_spec.specs.Values.{ValuesGround, ValuesAccepted}
use Rattle.evaluation_spec.proofs.ValuesJudged.{by_texts, by_equality, no_node_lem, other_rule, values_judged, values_unrefused, one_equality}
use Rattle.evaluation_spec.proofs.Agreement.{number_positive}
use Rattle.verdicts.specs.Judging.{JudgesValues, JudgesTexts, refused, accepted, JudgesBuffers, Equates, HasNodes}
use Rattle.verdicts.proofs.Judging.{texts_accepted, Tells, tells_one, buffers}

-- a test with ! in front, told without
pub undone : (b : Bool) {x : Bool} → not b ≡ x → b ≡ not x
undone b e = sym (not-not b) ∙ ap not e

-- ── The buffers, where the rule is (P=R) ──
data Called (document rule : List ℕ) (words marks N n p nodes : ℕ) : Type 0 where
  ground : {P R : XPath} → Rule.Accepts rule (compare eq P R) → Tells (Ground document rule words marks) n p nodes → Called document rule words marks N n p nodes
  none : (ns : List Node) (P R : XPath) → N ≡ length ns → Accepted document rule words marks ns (compare eq P R) → n ≡ 0 → p ≡ 0 → nodes ≡ length ns → Called document rule words marks N n p nodes

module _ {document rule : List ℕ} {n p N : ℕ} (texts : JudgesTexts document rule n p N) (z : n ≡ 0) (equality : (T : Test) → Rule.Accepts rule T → Equates T true) where
  called : {words marks m q nodes : ℕ} → JudgesBuffers N words marks m q nodes → Called document rule words marks N m q nodes
  called {words} {marks} {m} {q} {nodes} d =
      let (ns, T, a, b, e) = texts_accepted texts z in
      let (P, R, i) = equality T b in
      let t = subst (Rule.Accepts rule) i b in
      go ns P R e t (buffers a t e d)
    where
      go : (ns : List Node) (P R : XPath) → N ≡ length ns → Rule.Accepts rule (compare eq P R)
          → Tells (Ground document rule words marks) m q nodes ⊎ (Accepted document rule words marks ns (compare eq P R) × (m ≡ 0) × (q ≡ 0) × (nodes ≡ length ns))
          → Called document rule words marks N m q nodes
      go ns P R e t (inl f) = ground t f
      go ns P R e t (inr (c, i, j, k)) = none ns P R e c i j k

module _ {document rule values : List ℕ} {words marks : ℕ} where
  values_refused : {n p nodes : ℕ} → Tells (ValuesGround document rule values words marks) n p nodes → JudgesValues document rule values words marks n p nodes
  values_refused t = record { refused = tells_one t; accepted = λ ns P R a. absurd (values_unrefused document rule values words marks ns P R a t.0 t.1.applies) }

  -- ── The ways out of a judgement ──
  pub values_texts : {n p nodes : ℕ} → JudgesTexts document rule n p nodes → n ≢ 0 → JudgesValues document rule values words marks n p nodes
  values_texts (refused r h f e g k) z = values_refused (r, by_texts document rule values words marks r (f words marks) h, e, g, k)
  values_texts (accepted ns T a b x y e) z = absurd (z x)

  module _ {n p N : ℕ} (texts : JudgesTexts document rule n p N) (z : n ≡ 0) where
    pub values_other : ((T : Test) → Rule.Accepts rule T → Equates T false) → JudgesValues document rule values words marks 23 0 0
    values_other other =
        let (ns, T, a, b, e) = texts_accepted texts z in
        values_refused (other_comparison, other_rule document rule values words marks ns a T b (other T b), refl, refl, refl)

    module _ (equality : (T : Test) → Rule.Accepts rule T → Equates T true) {m q nodes : ℕ} (lengths : JudgesBuffers N words marks m q nodes) where
      pub values_buffers : m ≢ 0 → JudgesValues document rule values words marks m q nodes
      values_buffers y = go (called texts z equality lengths)
        where
          go : Called document rule words marks N m q nodes → JudgesValues document rule values words marks m q nodes
          go (ground t (r, f, e, g, k)) = values_refused (r, by_equality document rule values words marks t r f, e, g, k)
          go (none ns P R e c i j k) = absurd (y i)

      pub values_node : m ≡ 0 → HasNodes values N false → JudgesValues document rule values words marks 13 0 0
      values_node y (w, o, l) = go (called texts z equality lengths)
        where
          go : Called document rule words marks N m q nodes → JudgesValues document rule values words marks 13 0 0
          go (ground t (r, f, e, g, k)) = let i = number_positive r in absurd (omega arith)
          go (none ns P R e c i j k) = values_refused (no_such_node, no_node_lem document rule values words marks c.test c o (rw (sym e) l), refl, refl, refl)

      pub values_none : m ≡ 0 → HasNodes values N true → JudgesValues document rule values words marks m q nodes
      values_none y h = go (called texts z equality lengths)
        where
          go : Called document rule words marks N m q nodes → JudgesValues document rule values words marks m q nodes
          go (ground t (r, f, e, g, k)) = let i = number_positive r in absurd (omega arith)
          go (none ns P R e c i j k) =
              let a : ValuesAccepted document rule values words marks ns P R = record { call = c; nodes = subst (λ N. All (λ w. w < N) values) e h } in
              record {
                refused = λ r f. absurd (values_unrefused document rule values words marks ns P R a r f.applies);
                accepted = λ ms Q S b. (i, j, k ∙ ap length (one_equality document rule values words marks ns ms P R Q S a b).0);
              }

  -- ── What a judgement says by its number ──
  pub values_accepted : {n p nodes : ℕ} → JudgesValues document rule values words marks n p nodes → n ≡ 0
      → (ns : List Node) × (P R : XPath) × ValuesAccepted document rule values words marks ns P R × (length ns ≡ nodes)
  values_accepted {n} {p} {nodes} j z = go (values_judged document rule values words marks)
    where
      go : ((r : Refusal) × First (ValuesGround document rule values words marks) r) ⊎ ((ns : List Node) × (P R : XPath) × ValuesAccepted document rule values words marks ns P R)
          → (ns : List Node) × (P R : XPath) × ValuesAccepted document rule values words marks ns P R × (length ns ≡ nodes)
      go (inl (r, f)) = let q = (j.refused r f).0 in let h = number_positive r in absurd (omega arith)
      go (inr (ns, P, R, a)) = (ns, P, R, a, sym (j.accepted ns P R a).2)
