-- What the contracts of the two evaluations say together: both mark the same nodes, and neither leaves anything open.
use Prim.Native.Nat.{ℕ, ◌+◌, ◌-◌, ◌≤◌, ◌<◌}
use mathlib.Core.Path.{◌≡◌, sym, ap, ap₂, ◌∙◌, subst}
use mathlib.Core.Logic.{◌⊎◌, inl, inr, ◌↔◌}
use mathlib.Core.List.{List, ◌++◌}
use lib.ListN.{length, get_or, take, drop, take-append-drop}
use lib.Seq.{get_or-drop, ext_get_or}
use native.Mathlib.Omega.{arith}
use native.Mathlib.Decide.{dec_lt}
use Rattle.limits.specs.Limits.{scratch_words}
use Rattle.lists.proofs.Lists.{number_one}
use Rattle.refusals.specs.Refusals.{Refusal, number, First, document_length, line_form, node_count, tree_rule, rule_length, unreadable, nesting, tests, steps, scratch_length, marks_length, duplicate_attribute, other_comparison, no_such_node}
use Rattle.xpath.specs.Syntax.{Test}
use Rattle.xpath.specs.Tree.{Tree}
use Rattle.xpath.proofs.Booleans.{same}
use Rattle.document_spec.specs.Library.{Node}
use Rattle.document_spec.specs.Verdict as Document
use Rattle.rule_spec.specs.Verdict as Rule
use Rattle.document_spec.proofs.Accepted as Spelled
use Rattle.snippets.specs.Count.{SnippetCount, comparisons}
use Rattle.snippets.proofs.Counting.{counted_one}
use Rattle.rule_spec.proofs.Accepted as Grammar
use Rattle.evaluation_spec.specs.Buffers.{Ground, Accepted}
use Rattle.evaluation_spec.specs.Evaluation.{Outcome, Selects, Refused, Selected, Evaluation, NoSnippets, PlainEvaluation, SnippetEvaluation}
use Rattle.evaluation_spec.proofs.Judged.{judged}

-- ── One mark ──
-- a mark is told by whether its node is selected, here by A and there by B
pub mark_one : {A B : Type 0} → A ↔ B → (a b : ℕ) → (A × (a ≡ 1)) ⊎ ((¬ A) × (a ≡ 0)) → (B × (b ≡ 1)) ⊎ ((¬ B) × (b ≡ 0)) → a ≡ b
mark_one i a b (inl h) (inl g) = h.1 ∙ sym g.1
mark_one i a b (inl h) (inr g) = absurd (g.0 (i.0 h.0))
mark_one i a b (inr h) (inl g) = absurd (h.0 (i.1 g.0))
mark_one i a b (inr h) (inr g) = h.1 ∙ sym g.1

pub number_positive : (r : Refusal) → 0 < number r
number_positive document_length = omega arith
number_positive (line_form i) = omega arith
number_positive node_count = omega arith
number_positive (tree_rule i) = omega arith
number_positive rule_length = omega arith
number_positive (unreadable o) = omega arith
number_positive (nesting o) = omega arith
number_positive (tests o) = omega arith
number_positive (steps o) = omega arith
number_positive scratch_length = omega arith
number_positive marks_length = omega arith
number_positive (duplicate_attribute i) = omega arith
number_positive other_comparison = omega arith
number_positive no_such_node = omega arith

-- ── A call that returns number 0 was accepted ──
module _ (Snippets : Tree → Test → ℕ → Type 0) (document rule scratch marks : List ℕ) (o : Outcome) (scratch' marks' : List ℕ)
    (e : Evaluation Snippets document rule scratch marks o scratch' marks') where
  pub accepted_of : o.number ≡ 0 → (ns : List Node) × (T : Test) × Accepted document rule (length scratch) (length marks) ns T
  accepted_of z = go (judged document rule (length scratch) (length marks))
    where
      go : ((r : Refusal) × First (Ground document rule (length scratch) (length marks)) r) ⊎ ((ns : List Node) × (T : Test) × Accepted document rule (length scratch) (length marks) ns T)
          → (ns : List Node) × (T : Test) × Accepted document rule (length scratch) (length marks) ns T
      go (inl (r, f)) = let i : o.number ≡ number r = ap (λ (x : Outcome). x.number) (e.refused r f).outcome in let p = number_positive r in absurd (omega arith)
      go (inr a) = a

-- ── Both evaluations pick the same entries ──
-- what two accepted evaluations of one document and rule have in common
pub record Agree (ns : List Node) (T : Test) (o o' : Outcome) (marks marks' : List ℕ) : Type 0 where
  pub selected : o.selected ≡ o'.selected
  pub marked : (v : ℕ) → v < length ns → get_or marks v 0 ≡ get_or marks' v 0
  -- and each picks what the definition selects
  pub picked : (v : ℕ) → v < length ns → (Selects ns T v × (get_or marks v 0 ≡ 1)) ⊎ ((¬ Selects ns T v) × (get_or marks v 0 ≡ 0))

-- For every document and rule, and whatever the lent buffers held before.
pub evaluations_agree : (document rule scratch₁ marks₁ scratch₂ marks₂ : List ℕ) (o₁ o₂ : Outcome) (scratch₁' marks₁' scratch₂' marks₂' : List ℕ)
    → PlainEvaluation document rule scratch₁ marks₁ o₁ scratch₁' marks₁'
    → SnippetEvaluation document rule scratch₂ marks₂ o₂ scratch₂' marks₂'
    → o₁.number ≡ 0 → o₂.number ≡ 0
    → (ns : List Node) × (T : Test) × Document.Accepts document ns × Rule.Accepts rule T × Agree ns T o₁ o₂ marks₁' marks₂'
evaluations_agree document rule scratch₁ marks₁ scratch₂ marks₂ o₁ o₂ scratch₁' marks₁' scratch₂' marks₂' e₁ e₂ z₁ z₂ =
    let (ns, T, a) = accepted_of NoSnippets document rule scratch₁ marks₁ o₁ scratch₁' marks₁' e₁ z₁ in
    let (ms, U, b) = accepted_of SnippetCount document rule scratch₂ marks₂ o₂ scratch₂' marks₂' e₂ z₂ in
    let i = Spelled.accepts_one document ns ms a.library b.library in
    let j = Grammar.accepts_one rule a.test b.test in
    let s₁ = e₁.accepted ns T a in
    let s₂ : Selected SnippetCount ns T scratch₂ marks₂ o₂ scratch₂' marks₂' = rw (i, j) (e₂.accepted ms U b) in (
      ns,
      T,
      a.library,
      a.test,
      record {
        selected = number_one s₁.selected s₂.selected;
        marked = λ v r. mark_one same (get_or marks₁' v 0) (get_or marks₂' v 0) (s₁.marked v r) (s₂.marked v r);
        picked = s₁.marked;
      },
    )

-- ── The contract leaves nothing open ──
-- a list is told by its first n elements and the later ones
pub words_one : (n : ℕ) (xs ys : List ℕ) → take n xs ≡ take n ys → drop n xs ≡ drop n ys → xs ≡ ys
words_one n xs ys e f = sym (take-append-drop n xs) ∙ ap₂ (λ (a b : List ℕ). a ++ b) e f ∙ take-append-drop n ys

-- two lists that agree below n, and from n on with one list, are one
pub spliced : (n : ℕ) (xs ys zs : List ℕ) → length xs ≡ length zs → length ys ≡ length zs → drop n xs ≡ drop n zs → drop n ys ≡ drop n zs
    → ((v : ℕ) → v < n → get_or xs v 0 ≡ get_or ys v 0) → xs ≡ ys
spliced n xs ys zs lx ly dx dy h = ext_get_or 0 xs ys (lx ∙ sym ly) (λ v r. go v (dec_lt v n))
  where
    late : (ws : List ℕ) → drop n ws ≡ drop n zs → (v : ℕ) → n ≤ v → get_or ws v 0 ≡ get_or zs v 0
    late ws d v r =
        let e : n + (v - n) ≡ v = omega arith in
        subst (λ i. get_or ws i 0 ≡ get_or zs i 0) e (sym (get_or-drop n ws (v - n) 0) ∙ ap (λ l. get_or l (v - n) 0) d ∙ get_or-drop n zs (v - n) 0)

    go : (v : ℕ) → Dec (v < n) → get_or xs v 0 ≡ get_or ys v 0
    go v (yes r) = h v r
    go v (no f) = late xs dx v (omega arith) ∙ sym (late ys dy v (omega arith))

pub outcome_one : {o₁ o₂ : Outcome} → o₁.number ≡ o₂.number → o₁.place ≡ o₂.place → o₁.selected ≡ o₂.selected → o₁.snippets ≡ o₂.snippets → o₁ ≡ o₂
outcome_one n p c k i = record { number = n i; place = p i; selected = c i; snippets = k i }

-- a refused call hands back its number and place, and leaves all as it was
pub refused_one : {r : Refusal} {scratch marks : List ℕ} {o₁ o₂ : Outcome} {scratch₁ marks₁ scratch₂ marks₂ : List ℕ}
    → Refused r scratch marks o₁ scratch₁ marks₁ → Refused r scratch marks o₂ scratch₂ marks₂ → (o₁ ≡ o₂) × (scratch₁ ≡ scratch₂) × (marks₁ ≡ marks₂)
refused_one s t = (s.outcome ∙ sym t.outcome, s.same_scratch ∙ sym t.same_scratch, s.same_marks ∙ sym t.same_marks)

module _ (Snippets : Tree → Test → ℕ → Type 0) (one : (t : Tree) (T : Test) (n m : ℕ) → Snippets t T n → Snippets t T m → n ≡ m)
    (document rule scratch marks : List ℕ) where
  -- two results by the same contract are one
  pub evaluation_one : (o₁ o₂ : Outcome) (scratch₁ marks₁ scratch₂ marks₂ : List ℕ)
      → Evaluation Snippets document rule scratch marks o₁ scratch₁ marks₁ → Evaluation Snippets document rule scratch marks o₂ scratch₂ marks₂
      → (o₁ ≡ o₂) × (scratch₁ ≡ scratch₂) × (marks₁ ≡ marks₂)
  evaluation_one o₁ o₂ scratch₁ marks₁ scratch₂ marks₂ e₁ e₂ = go (judged document rule (length scratch) (length marks))
    where
      chosen : (ns : List Node) (T : Test) → Selected Snippets ns T scratch marks o₁ scratch₁ marks₁ → Selected Snippets ns T scratch marks o₂ scratch₂ marks₂
          → (o₁ ≡ o₂) × (scratch₁ ≡ scratch₂) × (marks₁ ≡ marks₂)
      chosen ns T s t = (
        outcome_one (s.number ∙ sym t.number) (s.place ∙ sym t.place) (number_one s.selected t.selected) (one _ T o₁.snippets o₂.snippets s.snippets t.snippets),
        words_one (scratch_words (length ns)) scratch₁ scratch₂ (s.cleared ∙ sym t.cleared) (s.later_words ∙ sym t.later_words),
        spliced (length ns) marks₁ marks₂ marks s.as_many_marks t.as_many_marks s.later_marks t.later_marks
            (λ v r. mark_one same (get_or marks₁ v 0) (get_or marks₂ v 0) (s.marked v r) (t.marked v r)),
      )

      go : ((r : Refusal) × First (Ground document rule (length scratch) (length marks)) r) ⊎ ((ns : List Node) × (T : Test) × Accepted document rule (length scratch) (length marks) ns T)
          → (o₁ ≡ o₂) × (scratch₁ ≡ scratch₂) × (marks₁ ≡ marks₂)
      go (inl (r, f)) = refused_one (e₁.refused r f) (e₂.refused r f)
      go (inr (ns, T, a)) = chosen ns T (e₁.accepted ns T a) (e₂.accepted ns T a)

pub plain_one : (t : Tree) (T : Test) (n m : ℕ) → NoSnippets t T n → NoSnippets t T m → n ≡ m
plain_one t T n m h g = h ∙ sym g

pub snippets_one : (t : Tree) (T : Test) (n m : ℕ) → SnippetCount t T n → SnippetCount t T m → n ≡ m
snippets_one t T n m h g = counted_one t (comparisons T) n m h.counted g.counted

-- ── For each evaluation, with nothing supposed ──
pub plain_evaluation_one : (document rule scratch marks : List ℕ) (o₁ o₂ : Outcome) (scratch₁ marks₁ scratch₂ marks₂ : List ℕ)
    → PlainEvaluation document rule scratch marks o₁ scratch₁ marks₁ → PlainEvaluation document rule scratch marks o₂ scratch₂ marks₂
    → (o₁ ≡ o₂) × (scratch₁ ≡ scratch₂) × (marks₁ ≡ marks₂)
plain_evaluation_one = evaluation_one NoSnippets plain_one

pub snippet_evaluation_one : (document rule scratch marks : List ℕ) (o₁ o₂ : Outcome) (scratch₁ marks₁ scratch₂ marks₂ : List ℕ)
    → SnippetEvaluation document rule scratch marks o₁ scratch₁ marks₁ → SnippetEvaluation document rule scratch marks o₂ scratch₂ marks₂
    → (o₁ ≡ o₂) × (scratch₁ ≡ scratch₂) × (marks₁ ≡ marks₂)
snippet_evaluation_one = evaluation_one SnippetCount snippets_one
