-- The kind of a path at an offset tells its tests, its steps, and where its parts stand.
use Prim.Native.Nat.{ℕ, ◌+◌, ◌≤◌, ◌<◌}
use native.Mathlib.Omega.{arith}
use mathlib.Core.Path.{◌≡◌, refl, sym, ap, subst, ◌∙◌}
use mathlib.Core.Logic.{inl, inr}
use mathlib.Core.List.{List, [], ◌∷◌, ◌++◌}
use lib.ListN.{length, get_or}
use types.Run.{OneOf}
use denote.Enum.Declared.{tag_of}
use Rattle.xpath.specs.Syntax.{Test, XPath, empty, one, seq, union, star, Step, to_left, to_right, from_left, from_right, stay, steps}
use Rattle.rule_spec.proofs.Reading.{test_head, path_head}
use Rattle.rule_parts.specs.Standing.{TestAt, PathAt}
use Rattle.rule_parts.specs.Kinds.{path_kind}
use Rattle.rule_parts.specs.declared.kinds.PathKind.{PathKind}
use Rattle.rule_parts.specs.contracts.kinds.PathKind as path-kinds
use Rattle.rule_parts.proofs.Inner.{star_inner, seq_inner, union_inner, bracket_inner}
use Rattle.test_numbers.specs.Tests.{tests_of, path_tests, step_tests}

-- ── What the kind tells ──
-- a kind by its number
abbrev pub path_tag : PathKind → ℕ
path_tag k = tag_of path-kinds.the_type k

module _ (s : List ℕ) where
  pub test_long : {T : Test} {i j : ℕ} → TestAt s T i j → (i < j) × (j ≤ length s)
  test_long {T} a = let (b, u, e, h) = test_head T in let n = ap length e in let m = a.spans.ends in let l = a.spans.inside in (omega arith, omega arith)

  pub path_long : {P : XPath} {i j : ℕ} → PathAt s P i j → (i < j) × (j ≤ length s)
  path_long {P} a = let (b, u, e, h) = path_head P in let n = ap length e in let m = a.spans.ends in let l = a.spans.inside in (omega arith, omega arith)

  -- what stands from i to j, if its steps are xs and its tests Ts
  module _ (xs : List Step) (Ts : List Test) (i j : ℕ) where
    abbrev pub IsEmpty : Type 0
    IsEmpty = (xs ≡ []) × (Ts ≡ [])

    abbrev pub IsStep : Type 0
    IsStep = (t : Step) × (xs ≡ t ∷ []) × ((T : Test) → ¬ (t ≡ stay T)) × (Ts ≡ [])

    abbrev pub IsBracket : Type 0
    IsBracket = (T : Test) × (m : ℕ) × TestAt s T (i + 1) m × (xs ≡ stay T ∷ []) × (Ts ≡ tests_of T)

    abbrev pub IsPair : Type 0
    IsPair = (A B : XPath) × (m : ℕ) × PathAt s A (i + 1) m × PathAt s B m j × (xs ≡ steps A ++ steps B) × (Ts ≡ path_tests A ++ path_tests B)

    abbrev pub IsStar : Type 0
    IsStar = (A : XPath) × PathAt s A (i + 1) j × (xs ≡ steps A) × (Ts ≡ path_tests A)

    abbrev PathShape : ℕ → Type 0
    PathShape n = get_or (IsEmpty ∷ IsStep ∷ IsStep ∷ IsStep ∷ IsStep ∷ IsBracket ∷ IsPair ∷ IsPair ∷ IsStar ∷ []) n ⊥

  path_shape : (P : XPath) {i j : ℕ} → PathAt s P i j → PathShape (steps P) (path_tests P) i j (path_tag (path_kind P))
  unfolding path_tests step_tests
  path_shape empty h = (refl, refl)
  path_shape (one to_left) h = (to_left, refl, (λ T e. let z : ◌≡◌ {A = ℕ} 0 1 = cc in omega arith), refl)
  path_shape (one to_right) h = (to_right, refl, (λ T e. let z : ◌≡◌ {A = ℕ} 0 1 = cc in omega arith), refl)
  path_shape (one from_left) h = (from_left, refl, (λ T e. let z : ◌≡◌ {A = ℕ} 0 1 = cc in omega arith), refl)
  path_shape (one from_right) h = (from_right, refl, (λ T e. let z : ◌≡◌ {A = ℕ} 0 1 = cc in omega arith), refl)
  path_shape (one (stay T)) h = let (m, a, b) = bracket_inner s h in (T, m, a, refl, refl)
  path_shape (seq A B) h = let (m, a, b) = seq_inner s h in (A, B, m, a, b, refl, refl)
  path_shape (union A B) h = let (m, a, b) = union_inner s h in (A, B, m, a, b, refl, refl)
  path_shape (star A) h = (A, star_inner s h, refl, refl)

  module _ {i : ℕ} {k : PathKind} (kind : (P : XPath) (j : ℕ) → PathAt s P i j → k ≡ path_kind P) (P : XPath) (j : ℕ) (h : PathAt s P i j) where
    pub path_of : (n : ℕ) → path_tag k ≡ n → PathShape (steps P) (path_tests P) i j n
    path_of n e = subst (PathShape (steps P) (path_tests P) i j) (sym (ap path_tag (kind P j h)) ∙ e) (path_shape P h)

    pub step_of : OneOf (1 ∷ 2 ∷ 3 ∷ 4 ∷ []) (path_tag k) → IsStep (steps P) (path_tests P) i j
    step_of (inl e) = path_of 1 e
    step_of (inr (inl e)) = path_of 2 e
    step_of (inr (inr (inl e))) = path_of 3 e
    step_of (inr (inr (inr e))) = path_of 4 e

    -- neither e nor a plain step has a test
    pub testless_of : OneOf (0 ∷ 1 ∷ 2 ∷ 3 ∷ 4 ∷ []) (path_tag k) → path_tests P ≡ []
    testless_of (inl e) = (path_of 0 e).1
    testless_of (inr e) = (step_of e).3

    pub pair_of : OneOf (6 ∷ 7 ∷ []) (path_tag k) → IsPair (steps P) (path_tests P) i j
    pair_of (inl e) = path_of 6 e
    pair_of (inr e) = path_of 7 e
