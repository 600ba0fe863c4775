-- Each kind of test is settled by its pass.
use Prim.Native.Nat.{ℕ, suc, ◌+◌, ◌≤◌, ◌<◌}
use native.Mathlib.Numerals.{add-one}
use native.Mathlib.Omega.{arith}
use mathlib.Core.Path.{◌≡◌, refl, sym, ap, ◌∙◌, subst}
use mathlib.Core.Logic.{◌⊎◌, inl, inr, ⊎_map}
use mathlib.Core.Bool.{true}
use mathlib.Core.List.{List}
use lib.ListN.{length}
use lib.Seq.{slice}
use Rattle.xpath.specs.Syntax.{Test, named, not, and, or, compare, compare_to, at_least}
use Rattle.document_spec.specs.Library.{Node}
use Rattle.document_spec.specs.Library as Library
use Rattle.rule_spec.specs.Spelling.{spell_test}
use Rattle.rule_spec.proofs.Reading.{test_head}
use Rattle.lexer.proofs.Laws.{slice_of}
use Rattle.layout.specs.Table.{Room}
use Rattle.table.specs.Tabled.{Tabled}
use Rattle.rule_parts.specs.Standing.{Spans, TestAt}
use Rattle.rule_parts.specs.Kinds.{test_kind}
use Rattle.rule_parts.specs.declared.kinds.TestKind.{TestKind}
use Rattle.rule_parts.specs.declared.kinds.TestKind.TheVariants.{Named, Not, And, Or}
use Rattle.rule_parts.proofs.Inner.{spans_next}
use Rattle.test_bits.specs.Columns.{held, Settled}
use Rattle.test_numbers.specs.Tests.{tests_of, test}
use Rattle.test_numbers.proofs.Counts.{tests_few}
use Rattle.test_numbers.proofs.Following.{Begins, inner_not, inner_two}
use Rattle.driver.specs.Tasks.{Shape, Task, Tells, Decided}
use Rattle.driver.proofs.Answers.{some_nodes}
use Rattle.driver.proofs.Settling.{decided}

-- ── The shape of a test by its kind ──
shape : (T : Test) → Shape (test_kind T) T
shape (named a) = (a, refl)
shape (not T) = (T, refl)
shape (and T U) = (T, U, refl)
shape (or T U) = (T, U, refl)
shape (compare o P R) = inl (o, P, R, refl)
shape (compare_to o P c) = inr (o, P, c, refl)
shape (at_least m P) = (m, P, refl)

pub shaped : {k l : TestKind} → k ≡ l → (T : Test) → k ≡ test_kind T → Shape l T
shaped e T h = subst (λ l. Shape l T) (sym h ∙ e) (shape T)

-- ── Where a test stands ──
-- the bytes that stand from i to j
pub spans_slice : {s w : List ℕ} {i j : ℕ} → Spans s w i j → slice i j s ≡ w
spans_slice {s} {w} {i} {j} h = let e = h.ends in let k = h.inside in subst (λ m. slice i m s ≡ w) (sym e) (slice_of s i w _ (omega arith) h.spelled)

-- a test has a first byte
pub test_begins : {s : List ℕ} {T : Test} {i j : ℕ} → TestAt s T i j → i < length s
test_begins {T = T} h = let (b, u, f, g) = test_head T in let l = ap length f in let e = h.spans.ends in let k = h.spans.inside in omega arith

-- ── The test that is due ──
module _ {s rule : List ℕ} {ns : List Node} {T : Test} {n at k : ℕ} {t : List ℕ} (task : Task s rule ns T n at k t) where
  abbrev due : Test
  due = test (tests_of T) k

  pub number_small : k < 64
  number_small = let f = tests_few task.accepts in let l = task.number in omega arith

  pub tabled : Tabled s n t
  tabled = task.scene.annotated.tabled

  pub room : Room n t
  room = tabled.room

  -- a test inside it is settled
  pub told_inner : {i : ℕ} {U : Test} → Begins T k i U → Tells ns n i U t
  told_inner {i} (b, l, q) = subst (λ W. Tells ns n i W t) q (task.inner i b)

  -- ── A name, and a test denied ──
  -- :name
  pub name_spans : Shape Named due → (at + 1 ≤ task.end) × (task.end ≤ length rule)
  unfolding spell_test
  name_spans (a, e) = let h = spans_next rule 58 (subst (λ U. Spans rule (spell_test U) at task.end) e task.stands.spans) in let l = h.ends in (omega arith, h.inside)

  pub named_decided : {t' : List ℕ} {stop : ℕ} → Shape Named due → stop ≡ task.end → Settled n k (λ v. (Library.at ns v).label ≡ slice (at + 1) stop rule) t t' → Decided ns n k due t t'
  unfolding spell_test
  named_decided {t'} {stop} (a, e) q p =
      let w : slice (at + 1) stop rule ≡ a = ap (λ j. slice (at + 1) j rule) q ∙ spans_slice (spans_next rule 58 (subst (λ U. Spans rule (spell_test U) at task.end) e task.stands.spans)) in
      subst (λ U. Decided ns n k U t t') (sym e) (decided (named a) (some_nodes task.scene) p (λ v l. (λ x. x ∙ w, λ x. x ∙ sym w)))

  -- !T
  pub not_decided : {t' : List ℕ} → Shape Not due → Settled n k (λ v. ¬ (held t n (k + 1) v ≡ true)) t t' → Decided ns n k due t t'
  not_decided {t'} (U, e) p =
      let tells = subst (λ j. Tells ns n j U t) (sym (add-one k)) (told_inner (inner_not T k e)) in
      subst (λ W. Decided ns n k W t t') (sym e) (decided (not U) (some_nodes task.scene) p (λ v r. (λ f h. f ((tells v r).1 h), λ f h. f ((tells v r).0 h))))

  pub not_small : Shape Not due → k + 1 < 64
  not_small (U, e) = let (b, l, q) = inner_not T k e in let f = tests_few task.accepts in omega arith

  -- ── Both of two tests, or either ──
  -- &TT and |TT: the second test has number b
  module _ {U W : Test} {b : ℕ} (second : b ≡ suc k + length (tests_of U)) where
    two_told : (due ≡ and U W) ⊎ (due ≡ or U W) → (k + 1 < 64) × (b < 64) × Tells ns n (k + 1) U t × Tells ns n b W t
    two_told e =
        let (x, y) = inner_two T k e in let l = x.1 in let m = y.1 in let f = tests_few task.accepts in (
          omega arith,
          omega arith,
          subst (λ j. Tells ns n j U t) (sym (add-one k)) (told_inner x),
          subst (λ i. Tells ns n i W t) (sym second) (told_inner y),
        )

    two_small : (due ≡ and U W) ⊎ (due ≡ or U W) → (k + 1 < 64) × (b < 64)
    two_small e = let (l, m, x, y) = two_told e in (l, m)

    pub both_decided : {t' : List ℕ} → due ≡ and U W → Settled n k (λ v. (held t n (k + 1) v ≡ true) × (held t n b v ≡ true)) t t' → Decided ns n k due t t'
    both_decided {t'} e p =
        let (l, m, x, y) = two_told (inl e) in
        subst (λ A. Decided ns n k A t t') (sym e)
        (decided (and U W) (some_nodes task.scene) p (λ v r. (λ h. ((x v r).0 h.0, (y v r).0 h.1), λ h. ((x v r).1 h.0, (y v r).1 h.1))))

    pub either_decided : {t' : List ℕ} → due ≡ or U W → Settled n k (λ v. (held t n (k + 1) v ≡ true) ⊎ (held t n b v ≡ true)) t t' → Decided ns n k due t t'
    either_decided {t'} e p =
        let (l, m, x, y) = two_told (inr e) in
        subst (λ A. Decided ns n k A t t') (sym e)
        (decided (or U W) (some_nodes task.scene) p (λ v r. (⊎_map (x v r).0 (y v r).0, ⊎_map (x v r).1 (y v r).1)))

  -- what second_test says of b, for a test of two
  abbrev pub Second : ℕ → Type 0
  Second b =
      ((U W : Test) (j : ℕ) → TestAt rule (and U W) at j → b ≡ suc k + length (tests_of U))
      × ((U W : Test) (j : ℕ) → TestAt rule (or U W) at j → b ≡ suc k + length (tests_of U))

  module _ {b : ℕ} (second : Second b) where
    pub and_small : Shape And due → (k + 1 < 64) × (b < 64)
    and_small (U, W, e) = two_small (second.0 U W task.end (subst (λ A. TestAt rule A at task.end) e task.stands)) (inl e)

    pub and_decided : {t' : List ℕ} → Shape And due → Settled n k (λ v. (held t n (k + 1) v ≡ true) × (held t n b v ≡ true)) t t' → Decided ns n k due t t'
    and_decided (U, W, e) p = both_decided (second.0 U W task.end (subst (λ A. TestAt rule A at task.end) e task.stands)) e p

    pub or_small : Shape Or due → (k + 1 < 64) × (b < 64)
    or_small (U, W, e) = two_small (second.1 U W task.end (subst (λ A. TestAt rule A at task.end) e task.stands)) (inr e)

    pub or_decided : {t' : List ℕ} → Shape Or due → Settled n k (λ v. (held t n (k + 1) v ≡ true) ⊎ (held t n b v ≡ true)) t t' → Decided ns n k due t t'
    or_decided (U, W, e) p = either_decided (second.1 U W task.end (subst (λ A. TestAt rule A at task.end) e task.stands)) e p
