-- 02 (k), of calls as they are made: a list that holds each value once, in whatever order, gives what the snippet evaluation gives; and the contract of a list leaves nothing open.
use Prim.Native.Nat.{ℕ, ◌<◌}
use mathlib.Core.Path.{◌≡◌, sym, ap, ◌∙◌}
use mathlib.Core.Logic.{◌⊎◌, inl, inr, ◌↔◌, ⊎_map}
use mathlib.Core.List.{List}
use lib.ListN.{length, get_or}
use native.Mathlib.Omega.{arith}
use Rattle.limits.specs.Limits.{scratch_words}
use Rattle.lists.specs.Lists.{All}
use Rattle.lists.proofs.Lists.{all_occurs, number_one, number_iff}
use Rattle.refusals.specs.Refusals.{Refusal, First}
use Rattle.xpath.specs.Syntax.{eq, compare, XPath}
use Rattle.xpath.specs.Tree.{WellFormed}
use Rattle.xpath.proofs.Booleans.{same}
use Rattle.snippets.specs.Snippets.{Yielded}
use Rattle.snippets.specs.Count.{SnippetCount}
use Rattle.snippets.specs.Values.{ValueIn, EachValueOnce, YieldedBy, CountBy}
use Rattle.snippets.proofs.Counting.{settled_on}
use Rattle.snippets.proofs.Settles.{settles}
use Rattle.snippets.proofs.Values.{by_yielded, same_values, every_settles, every_count, count_by_one}
use Rattle.document_spec.specs.Library.{Node}
use Rattle.document_spec.specs.Binary.{tree_of}
use Rattle.document_spec.specs.Verdict as Document
use Rattle.document_spec.proofs.Binary.{tree_formed}
use Rattle.document_spec.proofs.Accepted as Spelled
use Rattle.rule_spec.specs.Verdict as Rule
use Rattle.rule_spec.proofs.Accepted as Grammar
use Rattle.evaluation_spec.specs.Buffers.{Accepted}
use Rattle.evaluation_spec.specs.Evaluation.{Outcome, Selects, Selected, SnippetEvaluation}
use Rattle.evaluation_spec.specs.Values.{no_equality, no_node, ValuesGround, ValuesAccepted, Settled, ValuesSelected, ValuesEvaluation}
use Rattle.evaluation_spec.proofs.Bound.{accepted_count}
use Rattle.evaluation_spec.proofs.Agreement.{mark_one, words_one, spliced, outcome_one, refused_one, snippet_evaluation_one}
use Rattle.evaluation_spec.proofs.ValuesJudged.{by_equality, values_judged}

-- ── Two lists ──
-- two results of accepted calls are one, if what the lists settle and what they count is
module _ (vs ws : List ℕ) (ns : List Node) (P R : XPath)
    (alike : (v : ℕ) → Settled vs ns P R v ↔ Settled ws ns P R v)
    (one : (n m : ℕ) → CountBy (tree_of ns) vs P R n → CountBy (tree_of ns) ws P R m → n ≡ m) where
  selected_one : {scratch marks : List ℕ} {o₁ o₂ : Outcome} {scratch₁ marks₁ scratch₂ marks₂ : List ℕ}
      → ValuesSelected vs ns P R scratch marks o₁ scratch₁ marks₁ → ValuesSelected ws ns P R scratch marks o₂ scratch₂ marks₂
      → (o₁ ≡ o₂) × (scratch₁ ≡ scratch₂) × (marks₁ ≡ marks₂)
  selected_one {marks = marks} {o₁ = o₁} {o₂ = o₂} {scratch₁ = scratch₁} {marks₁ = marks₁} {scratch₂ = scratch₂} {marks₂ = marks₂} s t = (
    outcome_one (s.number ∙ sym t.number) (s.place ∙ sym t.place) (number_one (number_iff alike s.selected) t.selected) (one o₁.snippets o₂.snippets s.snippets t.snippets),
    words_one (scratch_words (length ns)) scratch₁ scratch₂ (s.cleared ∙ sym t.cleared) (s.later_words ∙ sym t.later_words),
    spliced (length ns) marks₁ marks₂ marks s.as_many_marks t.as_many_marks s.later_marks t.later_marks
        (λ v r. mark_one (alike v) (get_or marks₁ v 0) (get_or marks₂ v 0) (s.marked v r) (t.marked v r)),
  )

-- ── The contract leaves nothing open ──
pub values_evaluation_one : (document rule values scratch marks : List ℕ) (o₁ o₂ : Outcome) (scratch₁ marks₁ scratch₂ marks₂ : List ℕ)
    → ValuesEvaluation document rule values scratch marks o₁ scratch₁ marks₁ → ValuesEvaluation document rule values scratch marks o₂ scratch₂ marks₂
    → (o₁ ≡ o₂) × (scratch₁ ≡ scratch₂) × (marks₁ ≡ marks₂)
values_evaluation_one document rule values scratch marks o₁ o₂ scratch₁ marks₁ scratch₂ marks₂ e₁ e₂ = go (values_judged document rule values (length scratch) (length marks))
  where
    go : ((r : Refusal) × First (ValuesGround document rule values (length scratch) (length marks)) r) ⊎ ((ns : List Node) × (P R : XPath) × ValuesAccepted document rule values (length scratch) (length marks) ns P R)
        → (o₁ ≡ o₂) × (scratch₁ ≡ scratch₂) × (marks₁ ≡ marks₂)
    go (inl (r, f)) = refused_one (e₁.refused r f) (e₂.refused r f)
    go (inr (ns, P, R, a)) = selected_one values values ns P R (λ v. same) (count_by_one (tree_of ns) values P R) (e₁.accepted ns P R a) (e₂.accepted ns P R a)

module _ (document rule : List ℕ) (ns : List Node) (library : Document.Accepts document ns) where
  -- ── Each value once ──
  -- 02 (k): whatever the order, record, marks and words are those of the snippet evaluation
  module _ (P R : XPath) (test : Rule.Accepts rule (compare eq P R)) where
    pub each_value_once : (values : List ℕ) → EachValueOnce (tree_of ns) values
        → (scratch marks : List ℕ) (o : Outcome) (scratch' marks' : List ℕ)
        → ValuesEvaluation document rule values scratch marks o scratch' marks' → SnippetEvaluation document rule scratch marks o scratch' marks'
    each_value_once values each scratch marks o scratch' marks' e = record {
      refused = λ r f. e.refused r (by_equality document rule values (length scratch) (length marks) test r f);
      accepted = λ ms T a.
          let i = Spelled.accepts_one document ms ns a.library library in
          let j = Grammar.accepts_one rule a.test test in
          let b : Accepted document rule (length scratch) (length marks) ns (compare eq P R) = rw (sym i, sym j) a in
          rw (i, j) (selected b);
    }
      where
        wf : WellFormed (tree_of ns)
        wf = tree_formed library.legal

        alike : (v : ℕ) → Settled values ns P R v ↔ Selects ns (compare eq P R) v
        alike v = ((λ (r, s). (r, (every_settles wf values each v r).0 s)), (λ (r, h). (r, (every_settles wf values each v r).1 h)))

        selected : Accepted document rule (length scratch) (length marks) ns (compare eq P R) → Selected SnippetCount ns (compare eq P R) scratch marks o scratch' marks'
        selected a = let s = e.accepted ns P R (record { call = a; nodes = each.nodes }) in record {
          number = s.number;
          place = s.place;
          selected = number_iff alike s.selected;
          snippets = accepted_count document rule (length scratch) (length marks) ns (compare eq P R) a o.snippets (every_count wf values each o.snippets s.snippets);
          marked = λ v r. ⊎_map (λ (h, m). ((alike v).0 h, m)) (λ (h, m). ((λ k. h ((alike v).1 k)), m)) (s.marked v r);
          later_marks = s.later_marks;
          as_many_marks = s.as_many_marks;
          cleared = s.cleared;
          later_words = s.later_words;
        }

    -- so any two such lists give the same
    pub any_list : (vs ws : List ℕ) → EachValueOnce (tree_of ns) vs → EachValueOnce (tree_of ns) ws
        → (scratch marks : List ℕ) (o₁ o₂ : Outcome) (scratch₁ marks₁ scratch₂ marks₂ : List ℕ)
        → ValuesEvaluation document rule vs scratch marks o₁ scratch₁ marks₁ → ValuesEvaluation document rule ws scratch marks o₂ scratch₂ marks₂
        → (o₁ ≡ o₂) × (scratch₁ ≡ scratch₂) × (marks₁ ≡ marks₂)
    any_list vs ws once₁ once₂ scratch marks o₁ o₂ scratch₁ marks₁ scratch₂ marks₂ e₁ e₂ =
        snippet_evaluation_one document rule scratch marks o₁ o₂ scratch₁ marks₁ scratch₂ marks₂
        (each_value_once vs once₁ scratch marks o₁ scratch₁ marks₁ e₁) (each_value_once ws once₂ scratch marks o₂ scratch₂ marks₂ e₂)

    -- ── Part of the values ──
    -- whatever the list, a node that is settled is one that the rule selects
    pub settled_selected : (values : List ℕ) (v : ℕ) → Settled values ns P R v → Selects ns (compare eq P R) v
    settled_selected values v (r, s) =
        (r, (settles (tree_of ns) (tree_formed library.legal) P R v r).0 (settled_on (tree_of ns) P R (YieldedBy (tree_of ns) values P R 0) (Yielded (tree_of ns) P R 0) (λ x y p q. by_yielded values) v s))

  -- ── The same values ──
  -- neither order nor repetition matters: of two lists with the same values, some or all, the results are one
  module _ (vs ws : List ℕ) (nodes₁ : All (λ w. w < length ns) vs) (nodes₂ : All (λ w. w < length ns) ws)
      (alike : (d : List ℕ) → ValueIn (tree_of ns) vs d ↔ ValueIn (tree_of ns) ws d) where
    -- a list of nodes alone has no ground of its own
    grounds : (us : List ℕ) → All (λ w. w < length ns) us → (us' : List ℕ) {words marks : ℕ} (r : Refusal) → ValuesGround document rule us words marks r → ValuesGround document rule us' words marks r
    grounds us h us' r (inl g) = inl g
    grounds us h us' r (inr (no_equality a n)) = inr (no_equality a n)
    grounds us h us' r (inr (no_node {ns = ms} {w = w} a o l)) =
        let e : length ms ≡ length ns = ap (λ (l : List Node). length l) (Spelled.accepts_one document ms ns a library) in
        let k : w < length ns = (all_occurs _ us).0 h w o in
        absurd (omega arith)

    settled_alike : (P R : XPath) (v : ℕ) → Settled vs ns P R v ↔ Settled ws ns P R v
    settled_alike P R v = (
      (λ (r, s). (r, settled_on (tree_of ns) P R (YieldedBy (tree_of ns) vs P R 0) (YieldedBy (tree_of ns) ws P R 0) (λ x y p q. (same_values vs ws alike 0 x y p q).0) v s)),
      (λ (r, s). (r, settled_on (tree_of ns) P R (YieldedBy (tree_of ns) ws P R 0) (YieldedBy (tree_of ns) vs P R 0) (λ x y p q. (same_values vs ws alike 0 x y p q).1) v s)),
    )

    counted_alike : (P R : XPath) (n : ℕ) → CountBy (tree_of ns) vs P R n → CountBy (tree_of ns) ws P R n
    counted_alike P R n (a, b, e, h, g) = (a, b, e, number_iff (λ s. same_values vs ws alike s.power s.x s.y s.p s.q) h, g)

    pub same_list : (scratch marks : List ℕ) (o₁ o₂ : Outcome) (scratch₁ marks₁ scratch₂ marks₂ : List ℕ)
        → ValuesEvaluation document rule vs scratch marks o₁ scratch₁ marks₁ → ValuesEvaluation document rule ws scratch marks o₂ scratch₂ marks₂
        → (o₁ ≡ o₂) × (scratch₁ ≡ scratch₂) × (marks₁ ≡ marks₂)
    same_list scratch marks o₁ o₂ scratch₁ marks₁ scratch₂ marks₂ e₁ e₂ = go (values_judged document rule vs (length scratch) (length marks))
      where
        also : (r : Refusal) → First (ValuesGround document rule vs (length scratch) (length marks)) r → First (ValuesGround document rule ws (length scratch) (length marks)) r
        also r f = record { applies = grounds vs nodes₁ ws r f.applies; first = λ q g. f.first q (grounds ws nodes₂ vs q g) }

        listed : (ms : List Node) (P R : XPath) → ms ≡ ns → ValuesAccepted document rule vs (length scratch) (length marks) ms P R → (o₁ ≡ o₂) × (scratch₁ ≡ scratch₂) × (marks₁ ≡ marks₂)
        listed ms P R i a =
            let b : ValuesAccepted document rule vs (length scratch) (length marks) ns P R = rw (sym i) a in
            selected_one vs ws ns P R (settled_alike P R) (λ n m h g. count_by_one (tree_of ns) ws P R n m (counted_alike P R n h) g)
            (e₁.accepted ns P R b) (e₂.accepted ns P R (record { call = b.call; nodes = nodes₂ }))

        go : ((r : Refusal) × First (ValuesGround document rule vs (length scratch) (length marks)) r) ⊎ ((ms : List Node) × (P R : XPath) × ValuesAccepted document rule vs (length scratch) (length marks) ms P R)
            → (o₁ ≡ o₂) × (scratch₁ ≡ scratch₂) × (marks₁ ≡ marks₂)
        go (inl (r, f)) = refused_one (e₁.refused r f) (e₂.refused r (also r f))
        go (inr (ms, P, R, a)) = listed ms P R (Spelled.accepts_one document ms ns a.call.library library) a
