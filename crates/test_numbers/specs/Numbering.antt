-- The numbers of the tests in the brackets of paths.
use Rattle.std.specs.Prelude.{ℕ, ◌+◌, ◌≤◌, ◌<◌, ◌≡◌, List, ◌++◌, length, get_or, Option}
use Rattle.limits.specs.Limits.{positions, rule_tests}
use Rattle.xpath.specs.Syntax.{Test, XPath, stay, steps}
use Rattle.positions.specs.Positions.{Numbered}
use Rattle.path_sets.specs.Paths.{PathsAt}
use Rattle.test_numbers.specs.Tests.{path_tests, test}

-- the tests of the paths P and R are numbered from k on: position i has the number of its bracketed test
pub record Brackets (P R : XPath) (k : ℕ) (numbers : List ℕ) : Type 0 where
  pub small : (i : ℕ) → i < positions → get_or numbers i 0 < rule_tests
  pub numbered : (i : ℕ) (T : Test) → Numbered 1 (steps P ++ steps R) i (stay T)
      → (e : ℕ) × (get_or numbers i 0 ≡ k + e) × (e < length (path_tests P ++ path_tests R)) × (test (path_tests P ++ path_tests R) e ≡ T)

module _ (s : List ℕ) (at : ℕ) (behind : Option ℕ) (k : ℕ) where
  -- two paths stand at the offsets, and their tests have numbers below 64 from k on
  abbrev pub TwoNumbered : Type 0
  TwoNumbered = (P R : XPath) × PathsAt s at behind P R × (k + length (path_tests P ++ path_tests R) ≤ rule_tests)

  abbrev pub NumbersTwo : List ℕ → Type 0
  NumbersTwo r = (P R : XPath) → PathsAt s at behind P R → k + length (path_tests P ++ path_tests R) ≤ rule_tests → Brackets P R k r
