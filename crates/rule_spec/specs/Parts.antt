-- The parts of a rule, which are its tests and its paths, in the order of their first bytes.
use Rattle.std.specs.Prelude.{ℕ, suc, ◌+◌, List, [], ◌∷◌, ◌++◌, length}
use Rattle.lists.specs.Text.{decimal}
use Rattle.xpath.specs.Syntax.{Test, named, not, and, or, compare, compare_to, at_least, XPath, empty, one, seq, union, star, Step, to_left, to_right, from_left, from_right, stay, size}
use Rattle.rule_spec.specs.Spelling.{sign, spell_test, spell_path}

-- a comparison has the steps of its paths together, and a count those of its path
pub data Sort : Type 0 where
  test : Sort
  stepped : ℕ → Sort
  path : Sort

pub record Part : Type 0 where
  pub offset : ℕ
  pub nesting : ℕ
  pub sort : Sort

abbrev part : ℕ → ℕ → Sort → Part
part o n s = record { offset = o; nesting = n; sort = s }

-- the parts of a test that begins at offset o with nesting n; 01: a part directly inside another has one more, and neither a constant nor the n of a count is a part
unfoldable mutual
  pub test_parts : Test → ℕ → ℕ → List Part
  test_parts (named a) o n = part o n test ∷ []
  test_parts (not T) o n = part o n test ∷ test_parts T (suc o) (suc n)
  test_parts (and T U) o n = part o n test ∷ (test_parts T (suc o) (suc n) ++ test_parts U (suc o + length (spell_test T)) (suc n))
  test_parts (or T U) o n = part o n test ∷ (test_parts T (suc o) (suc n) ++ test_parts U (suc o + length (spell_test T)) (suc n))
  test_parts (compare s P Q) o n =
      part o n (stepped (size P + size Q)) ∷ (path_parts P (suc o) (suc n) ++ path_parts Q (suc o + length (spell_path P) + length (sign s)) (suc n))
  test_parts (compare_to s P c) o n = part o n (stepped (size P)) ∷ path_parts P (suc o) (suc n)
  test_parts (at_least k P) o n = part o n (stepped (size P)) ∷ path_parts P (suc o + length (decimal k)) (suc n)

  pub path_parts : XPath → ℕ → ℕ → List Part
  path_parts empty o n = part o n path ∷ []
  path_parts (one s) o n = part o n path ∷ step_parts s o n
  path_parts (seq P Q) o n = part o n path ∷ (path_parts P (suc o) (suc n) ++ path_parts Q (suc o + length (spell_path P)) (suc n))
  path_parts (union P Q) o n = part o n path ∷ (path_parts P (suc o) (suc n) ++ path_parts Q (suc o + length (spell_path P)) (suc n))
  path_parts (star P) o n = part o n path ∷ path_parts P (suc o) (suc n)

  pub step_parts : Step → ℕ → ℕ → List Part
  step_parts to_left o n = []
  step_parts to_right o n = []
  step_parts from_left o n = []
  step_parts from_right o n = []
  step_parts (stay T) o n = test_parts T (suc o) (suc n)

-- 01: the whole rule has nesting 1
unfoldable pub parts : Test → List Part
parts T = test_parts T 0 1

abbrev tests_of : Part → List Part → List Part
tests_of p ps = elim p.sort [ test ↦ p ∷ ps | stepped m ↦ p ∷ ps | path ↦ ps ]

-- the tests among them
unfoldable pub tests : List Part → List Part
tests [] = []
tests (p ∷ ps) = tests_of p (tests ps)
