-- 02 (n), of calls as they are made: masking names alters neither marks nor counts.
use Prim.Native.Nat.{ℕ}
use mathlib.Core.Path.{◌≡◌, sym, ◌∙◌}
use mathlib.Core.List.{List}
use lib.ListN.{length, get_or}
use native.Mathlib.Omega.{arith}
use Rattle.lists.proofs.Lists.{number_one, number_iff}
use Rattle.xpath.specs.Syntax.{Test}
use Rattle.xpath.specs.Tree.{Tree}
use Rattle.snippets.specs.Count.{SnippetCount}
use Rattle.document_spec.specs.Library.{Node}
use Rattle.document_spec.specs.Verdict as Document
use Rattle.document_spec.proofs.Accepted as Spelled
use Rattle.rule_spec.specs.Verdict as Rule
use Rattle.rule_spec.proofs.Accepted as Grammar
use Rattle.evaluation_spec.specs.Evaluation.{Outcome, Selected, Evaluation, NoSnippets, PlainEvaluation, SnippetEvaluation}
use Rattle.evaluation_spec.proofs.Agreement.{accepted_of, mark_one}
use Rattle.masking.specs.Masking.{MaskedDocuments, Unaltered}
use Rattle.masking.specs.Alike.{Alike}
use Rattle.masking.proofs.Libraries.{ConstantOf, masked_alike, selects_masked}
use Rattle.masking.proofs.Counts.{snippet_count_alike}

-- Snippets says what the snippet count of one kind of evaluation is, as in its contract
module _ (Snippets : Tree → Test → ℕ → Type 0) where
  -- an accepted call selected from the library that its document spells, by the test that its rule reads as
  selected_from : (document rule scratch marks : List ℕ) (o : Outcome) (scratch' marks' : List ℕ) → Evaluation Snippets document rule scratch marks o scratch' marks' → o.number ≡ 0
      → (ns : List Node) (T : Test) → Document.Accepts document ns → Rule.Accepts rule T → Selected Snippets ns T scratch marks o scratch' marks'
  selected_from document rule scratch marks o scratch' marks' e z ns T library test =
      let (ms, U, a) = accepted_of Snippets document rule scratch marks o scratch' marks' e z in
      let i = Spelled.accepts_one document ns ms library a.library in
      let j = Grammar.accepts_one rule test a.test in
      rw (i, j) (e.accepted ms U a)

  -- both kinds at once: trees that are alike have one count of snippets
  module _ (one : (T : Test) (t t' : Tree) → Alike (ConstantOf T) t t' → (n m : ℕ) → Snippets t T n → Snippets t' T m → n ≡ m) where
    unaltered : (document document' rule scratch₁ marks₁ scratch₂ marks₂ : List ℕ) (o₁ o₂ : Outcome) (scratch₁' marks₁' scratch₂' marks₂' : List ℕ)
        → (m : MaskedDocuments document document' rule)
        → Evaluation Snippets document rule scratch₁ marks₁ o₁ scratch₁' marks₁'
        → Evaluation Snippets document' rule scratch₂ marks₂ o₂ scratch₂' marks₂'
        → o₁.number ≡ 0 → o₂.number ≡ 0
        → Unaltered (length m.ns) o₁ o₂ marks₁' marks₂'
    unaltered document document' rule scratch₁ marks₁ scratch₂ marks₂ o₁ o₂ scratch₁' marks₁' scratch₂' marks₂' m e₁ e₂ z₁ z₂ =
        let s₁ = selected_from document rule scratch₁ marks₁ o₁ scratch₁' marks₁' e₁ z₁ m.ns m.T m.library m.test in
        let s₂ = selected_from document' rule scratch₂ marks₂ o₂ scratch₂' marks₂' e₂ z₂ m.ns' m.T m.library' m.test in
        let i = selects_masked m.masked m.library.legal m.library'.legal in
        record {
          selected = number_one (number_iff i s₁.selected) s₂.selected;
          snippets = one m.T _ _ (masked_alike m.masked m.library.legal m.library'.legal) o₁.snippets o₂.snippets s₁.snippets s₂.snippets;
          marked = λ v r. mark_one (i v) (get_or marks₁' v 0) (get_or marks₂' v 0) (s₁.marked v r) (s₂.marked v (let e = m.masked.nodes in omega arith));
        }

-- ── For each kind of evaluation ──
pub plain_unaltered : (document document' rule scratch₁ marks₁ scratch₂ marks₂ : List ℕ) (o₁ o₂ : Outcome) (scratch₁' marks₁' scratch₂' marks₂' : List ℕ)
    → (m : MaskedDocuments document document' rule)
    → PlainEvaluation document rule scratch₁ marks₁ o₁ scratch₁' marks₁'
    → PlainEvaluation document' rule scratch₂ marks₂ o₂ scratch₂' marks₂'
    → o₁.number ≡ 0 → o₂.number ≡ 0
    → Unaltered (length m.ns) o₁ o₂ marks₁' marks₂'
plain_unaltered = unaltered NoSnippets (λ T t t' a n m h g. h ∙ sym g)

pub snippets_unaltered : (document document' rule scratch₁ marks₁ scratch₂ marks₂ : List ℕ) (o₁ o₂ : Outcome) (scratch₁' marks₁' scratch₂' marks₂' : List ℕ)
    → (m : MaskedDocuments document document' rule)
    → SnippetEvaluation document rule scratch₁ marks₁ o₁ scratch₁' marks₁'
    → SnippetEvaluation document' rule scratch₂ marks₂ o₂ scratch₂' marks₂'
    → o₁.number ≡ 0 → o₂.number ≡ 0
    → Unaltered (length m.ns) o₁ o₂ marks₁' marks₂'
snippets_unaltered = unaltered SnippetCount (λ T t t' a. snippet_count_alike a T (λ c o. o))
