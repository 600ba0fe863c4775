-- The first byte of a test or a path tells its kind.
use Prim.Native.Nat.{ℕ, ◌+◌, ◌<◌}
use native.Mathlib.Numerals.{add-one}
use mathlib.Core.Path.{◌≡◌, refl, sym, ap, ap₂, ◌∙◌, subst}
use mathlib.Core.Logic.{◌≢◌}
use mathlib.Core.List.{List, ◌∷◌, ◌++◌, head-eq_of_cons-eq, tail-eq_of_cons-eq}
use lib.ListN.{length, get_or, drop}
use lib.Seq.{drop-cons}
use lib.Dec.{eqb}
use borrow.Author.Tests.{ne_eqb}
use Rattle.xpath.specs.Syntax.{Op, eq, ne, lt, le, gt, ge, Test, named, not, and, or, compare, compare_to, at_least, XPath, empty, one, seq, union, star, to_left, to_right, from_left, from_right, stay}
use Rattle.rule_spec.specs.Spelling.{sign, spell_test, spell_path, spell_step}
use Rattle.rule_spec.proofs.Reading.{Begun}
use Rattle.rule_spec.specs.Bytes.{choose}
use Rattle.rule_parts.specs.declared.kinds.TestKind.{TestKind}
use Rattle.rule_parts.specs.declared.kinds.TestKind.TheVariants.{Named, Not, And, Or, Comparison, Count}
use Rattle.rule_parts.specs.declared.kinds.PathKind.{PathKind}
use Rattle.rule_parts.specs.declared.kinds.PathKind.TheVariants.{Empty, ToLeft, ToRight, FromLeft, FromRight, Stay, Seq, Union, Star}
use Rattle.rule_parts.specs.declared.kinds.Operator.{Operator}
use Rattle.rule_parts.specs.declared.kinds.Operator.TheVariants.{Equal, Unequal}
use Rattle.rule_parts.specs.declared.kinds.Sign.{Sign}
use Rattle.tokens.specs.Readers.{Lacks, Stands}
use Rattle.rule_parts.specs.Standing.{Spans, TestAt, PathAt, SignAt}
use Rattle.rule_parts.specs.Kinds.{test_kind, path_kind, signed, longer, shorter}

abbrev pub test_by : ℕ → TestKind
test_by b = choose (eqb b 58) Named (choose (eqb b 33) Not (choose (eqb b 38) And (choose (eqb b 124) Or (choose (eqb b 35) Count Comparison))))

abbrev pub path_by : ℕ → PathKind
path_by b =
    choose (eqb b 101) Empty
    (choose (eqb b 108) ToLeft
    (choose (eqb b 114) ToRight
    (choose (eqb b 76) FromLeft
    (choose (eqb b 82) FromRight (choose (eqb b 91) Stay (choose (eqb b 46) Seq (choose (eqb b 43) Union Star)))))))

-- no other byte begins one
pub test_rest : (b : ℕ) → b ≢ 58 → b ≢ 33 → b ≢ 38 → b ≢ 124 → b ≢ 35 → Comparison ≡ test_by b
test_rest b p q r t u = rw (ne_eqb b 58 p, ne_eqb b 33 q, ne_eqb b 38 r, ne_eqb b 124 t, ne_eqb b 35 u) refl

pub path_rest : (b : ℕ) → b ≢ 101 → b ≢ 108 → b ≢ 114 → b ≢ 76 → b ≢ 82 → b ≢ 91 → b ≢ 46 → b ≢ 43 → Star ≡ path_by b
path_rest b p q r t u v w x =
    rw (ne_eqb b 101 p, ne_eqb b 108 q, ne_eqb b 114 r, ne_eqb b 76 t, ne_eqb b 82 u, ne_eqb b 91 v, ne_eqb b 46 w, ne_eqb b 43 x) refl

pub longer_rest : (b : ℕ) → b ≢ 60 → b ≢ 62 → Unequal ≡ longer b
longer_rest b p q = rw (ne_eqb b 60 p, ne_eqb b 62 q) refl

pub shorter_rest : (b : ℕ) → b ≢ 60 → b ≢ 62 → Equal ≡ shorter b
shorter_rest b p q = rw (ne_eqb b 60 p, ne_eqb b 62 q) refl

test_told : (T : Test) → Begun (λ b. test_by b ≡ test_kind T) (spell_test T)
unfolding spell_test
test_told (named a) = (58, _, refl, refl)
test_told (not T) = (33, _, refl, refl)
test_told (and T U) = (38, _, refl, refl)
test_told (or T U) = (124, _, refl, refl)
test_told (compare o P Q) = (40, _, refl, refl)
test_told (compare_to o P c) = (40, _, refl, refl)
test_told (at_least n P) = (35, _, refl, refl)

path_told : (P : XPath) → Begun (λ b. path_by b ≡ path_kind P) (spell_path P)
unfolding spell_path spell_step
path_told empty = (101, _, refl, refl)
path_told (one to_left) = (108, _, refl, refl)
path_told (one to_right) = (114, _, refl, refl)
path_told (one from_left) = (76, _, refl, refl)
path_told (one from_right) = (82, _, refl, refl)
path_told (one (stay T)) = (91, _, refl, refl)
path_told (seq P Q) = (46, _, refl, refl)
path_told (union P Q) = (43, _, refl, refl)
path_told (star P) = (42, _, refl, refl)

abbrev pub made : Operator → ℕ → Sign
made o j = record { operator = o; next = j }

module _ (s : List ℕ) {i : ℕ} (h : i < length s) where
  first : {j b : ℕ} {w u : List ℕ} → Spans s w i j → w ≡ b ∷ u → get_or s i 0 ≡ b
  first {j} a e = head-eq_of_cons-eq (sym (drop-cons s i 0 h) ∙ a.spelled ∙ ap (λ x. x ++ drop j s) e)

  pub test_by_lem : {T : Test} {j : ℕ} → TestAt s T i j → test_by (get_or s i 0) ≡ test_kind T
  test_by_lem {T} a = let (b, u, e, f) = test_told T in ap test_by (first a.spans e) ∙ f

  pub path_by_lem : {P : XPath} {j : ℕ} → PathAt s P i j → path_by (get_or s i 0) ≡ path_kind P
  path_by_lem {P} a = let (b, u, e, f) = path_told P in ap path_by (first a.spans e) ∙ f

  -- ── Signs ──
  module _ {b : ℕ} {u : List ℕ} (e : drop i s ≡ b ∷ u) where
    now : get_or s i 0 ≡ b
    now = head-eq_of_cons-eq (sym (drop-cons s i 0 h) ∙ e)

    then : drop (i + 1) s ≡ u
    then = ap (λ m. drop m s) (add-one i) ∙ tail-eq_of_cons-eq (sym (drop-cons s i 0 h) ∙ e)

  pub long_sign : Stands s (i + 1) 61 → (o : Op) (j : ℕ) → SignAt s o i j → made (longer (get_or s i 0)) (i + 2) ≡ signed o j
  long_sign k o j a = go o a.spans.spelled a.spans.ends
    where
      not_long : {b : ℕ} → drop i s ≡ b ∷ drop j s → ⊥
      not_long e = subst (Lacks 61) (sym (then e) ∙ k.here) a.apart refl

      go : (o : Op) → drop i s ≡ sign o ++ drop j s → j ≡ i + length (sign o) → made (longer (get_or s i 0)) (i + 2) ≡ signed o j
      go eq e n = absurd (not_long e)
      go ne e n = ap₂ (λ b m. made (longer b) m) (now e) (sym n)
      go lt e n = absurd (not_long e)
      go le e n = ap₂ (λ b m. made (longer b) m) (now e) (sym n)
      go gt e n = absurd (not_long e)
      go ge e n = ap₂ (λ b m. made (longer b) m) (now e) (sym n)

  pub short_sign : Lacks 61 (drop (i + 1) s) → (o : Op) (j : ℕ) → SignAt s o i j → made (shorter (get_or s i 0)) (i + 1) ≡ signed o j
  short_sign k o j a = go o a.spans.spelled a.spans.ends
    where
      not_short : {b : ℕ} → drop i s ≡ b ∷ 61 ∷ drop j s → ⊥
      not_short e = subst (Lacks 61) (then e) k refl

      go : (o : Op) → drop i s ≡ sign o ++ drop j s → j ≡ i + length (sign o) → made (shorter (get_or s i 0)) (i + 1) ≡ signed o j
      go eq e n = ap₂ (λ b m. made (shorter b) m) (now e) (sym n)
      go ne e n = absurd (not_short e)
      go lt e n = ap₂ (λ b m. made (shorter b) m) (now e) (sym n)
      go le e n = absurd (not_short e)
      go gt e n = ap₂ (λ b m. made (shorter b) m) (now e) (sym n)
      go ge e n = absurd (not_short e)
