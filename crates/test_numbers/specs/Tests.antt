-- The tests of a rule in the order of their first bytes: number k is the k-th of them, counted from 0.
use Rattle.std.specs.Prelude.{ℕ, ◌+◌, ◌≤◌, List, [], ◌∷◌, ◌++◌, get_or}
use Rattle.limits.specs.Limits.{comparison_steps}
use Rattle.xpath.specs.Syntax.{Test, named, not, and, or, compare, compare_to, at_least, XPath, empty, one, seq, union, star, Step, to_left, to_right, from_left, from_right, stay, size}

unfoldable mutual
  pub tests_of : Test → List Test
  tests_of (named a) = named a ∷ []
  tests_of (not T) = not T ∷ tests_of T
  tests_of (and T U) = and T U ∷ (tests_of T ++ tests_of U)
  tests_of (or T U) = or T U ∷ (tests_of T ++ tests_of U)
  tests_of (compare o P R) = compare o P R ∷ (path_tests P ++ path_tests R)
  tests_of (compare_to o P c) = compare_to o P c ∷ path_tests P
  tests_of (at_least n P) = at_least n P ∷ path_tests P

  pub path_tests : XPath → List Test
  path_tests empty = []
  path_tests (one s) = step_tests s
  path_tests (seq P R) = path_tests P ++ path_tests R
  path_tests (union P R) = path_tests P ++ path_tests R
  path_tests (star P) = path_tests P

  pub step_tests : Step → List Test
  step_tests to_left = []
  step_tests to_right = []
  step_tests from_left = []
  step_tests from_right = []
  step_tests (stay T) = tests_of T

-- the tests that begin inside a test, itself left out
abbrev pub inside : Test → List Test
inside (named a) = []
inside (not T) = tests_of T
inside (and T U) = tests_of T ++ tests_of U
inside (or T U) = tests_of T ++ tests_of U
inside (compare o P R) = path_tests P ++ path_tests R
inside (compare_to o P c) = path_tests P
inside (at_least n P) = path_tests P

-- number k in a list
abbrev pub test : List Test → ℕ → Test
test Ts k = get_or Ts k (named [])

-- a comparison or a count has at most 14 steps
abbrev pub Light : Test → Type 0
Light (named a) = Unit {0}
Light (not T) = Unit {0}
Light (and T U) = Unit {0}
Light (or T U) = Unit {0}
Light (compare o P R) = size P + size R ≤ comparison_steps
Light (compare_to o P c) = size P ≤ comparison_steps
Light (at_least n P) = size P ≤ comparison_steps
