-- The kind of a test at an offset tells the tests inside it, and where its parts stand.
use Prim.Native.Nat.{ℕ, ◌+◌, ◌≤◌, ◌<◌}
use native.Mathlib.Omega.{arith}
use mathlib.Core.Path.{◌≡◌, refl, sym, ap, subst, ◌∙◌}
use mathlib.Core.Logic.{inl, inr}
use mathlib.Core.List.{List, [], ◌∷◌, ◌++◌}
use lib.ListN.{length, get_or}
use types.Run.{OneOf}
use denote.Enum.Declared.{tag_of}
use Rattle.xpath.specs.Syntax.{Test, named, not, and, or, compare, compare_to, at_least, XPath}
use Rattle.tokens.specs.Readers.{Stands}
use Rattle.rule_parts.specs.Standing.{TestAt, PathAt}
use Rattle.rule_parts.specs.Middles.{Parted, Counted}
use Rattle.rule_parts.specs.Kinds.{test_kind}
use Rattle.rule_parts.specs.declared.Middle.{Middle}
use Rattle.rule_parts.specs.declared.Count.{Count}
use Rattle.rule_parts.specs.declared.kinds.TestKind.{TestKind}
use Rattle.rule_parts.specs.contracts.kinds.TestKind as test-kinds
use Rattle.rule_parts.proofs.Inner.{not_inner, and_inner, or_inner, count_inner}
use Rattle.rule_parts.proofs.Operands.{quoted}
use Rattle.test_numbers.specs.Tests.{tests_of, path_tests, inside}

-- a kind by its number
abbrev pub test_tag : TestKind → ℕ
test_tag k = tag_of test-kinds.the_type k

module _ (s : List ℕ) where
  -- how the test T stands from i to j
  module _ (T : Test) (i j : ℕ) where
    abbrev pub IsNot : Type 0
    IsNot = (U : Test) × TestAt s U (i + 1) j × (inside T ≡ tests_of U)

    abbrev pub IsTwo : Type 0
    IsTwo = (U W : Test) × (m : ℕ) × TestAt s U (i + 1) m × TestAt s W m j × (inside T ≡ tests_of U ++ tests_of W)

    -- the second operand stands at n: a path, or a constant from its quote on
    pub data Second (P : XPath) (n : ℕ) : Type 0 where
      path : (R : XPath) (k : ℕ) → PathAt s R n k → inside T ≡ path_tests P ++ path_tests R → Second P n
      constant : Stands s n 34 → inside T ≡ path_tests P → Second P n

    abbrev pub IsComparison : Type 0
    IsComparison = (m : Middle) → Parted s T i j m → (P : XPath) × PathAt s P (i + 1) m.sign × (m.sign ≤ m.second) × (m.second ≤ length s) × Second P m.second

    -- the path stands behind #, up to the end
    abbrev pub IsCount : Type 0
    IsCount = (c : Count) → ((n : ℕ) (P : XPath) (j : ℕ) → TestAt s (at_least n P) i j → Counted s n P j c) → (P : XPath) × PathAt s P c.path j × (i < c.path) × (inside T ≡ path_tests P)

    -- by the number of the kind
    abbrev pub TestShape : ℕ → Type 0
    TestShape n = get_or ((inside T ≡ []) ∷ IsNot ∷ IsTwo ∷ IsTwo ∷ IsComparison ∷ IsCount ∷ []) n ⊥

  test_shape : (T : Test) {i j : ℕ} → TestAt s T i j → TestShape T i j (test_tag (test_kind T))
  test_shape (named a) h = refl
  test_shape (not T) h = (T, not_inner s h, refl)
  test_shape (and T U) h = let (m, a, b) = and_inner s h in (T, U, m, a, b, refl)
  test_shape (or T U) h = let (m, a, b) = or_inner s h in (T, U, m, a, b, refl)
  test_shape (compare o P R) h = λ m (f, (k, q, c)). let g = f.sign.spans in let e = g.ends in (P, f.first, omega arith, g.inside, path R k q refl)
  test_shape (compare_to o P c) h = λ m (f, q). let g = f.sign.spans in let e = g.ends in (P, f.first, omega arith, g.inside, constant (quoted s c q) refl)
  test_shape (at_least n P) {j = j} h = λ c told.
      let a = (told n P j h).path in let (l, m, d, p) = count_inner s h in let e = a.spans.ends in let f = p.spans.ends in
      (P, a, omega arith, refl)

  module _ {i : ℕ} {k : TestKind} (kind : (T : Test) (j : ℕ) → TestAt s T i j → k ≡ test_kind T) (T : Test) (j : ℕ) (h : TestAt s T i j) where
    pub test_of : (n : ℕ) → test_tag k ≡ n → TestShape T i j n
    test_of n e = subst (TestShape T i j) (sym (ap test_tag (kind T j h)) ∙ e) (test_shape T h)

    pub two_of : OneOf (2 ∷ 3 ∷ []) (test_tag k) → IsTwo T i j
    two_of (inl e) = test_of 2 e
    two_of (inr e) = test_of 3 e
