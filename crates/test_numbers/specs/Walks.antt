-- What a walk over a path's bytes writes: the numbers of the tests in its brackets.
use Rattle.std.specs.Prelude.{ℕ, ◌+◌, ◌≤◌, ◌<◌, ◌≡◌, List, length, get_or}
use Rattle.limits.specs.Limits.{positions, rule_tests}
use Rattle.xpath.specs.Syntax.{Test, XPath, Step, stay, steps, size}
use Rattle.positions.specs.Positions.{Numbered}
use Rattle.rule_parts.specs.Standing.{PathAt}
use Rattle.test_numbers.specs.Tests.{path_tests, test}
use Rattle.test_numbers.specs.declared.Next.{Next}

-- the steps xs are numbered from b and their tests Ts from k: each bracket has the number of its test
abbrev pub Bracketed : List Step → List Test → ℕ → ℕ → List ℕ → Type 0
Bracketed xs Ts b k numbers =
    (i : ℕ) (T : Test) → Numbered b xs i (stay T) → (e : ℕ) × (get_or numbers i 0 ≡ k + e) × (e < length Ts) × (test Ts e ≡ T)

abbrev pub Small : List ℕ → Type 0
Small numbers = (i : ℕ) → i < positions → get_or numbers i 0 < rule_tests

-- the numbers below b are as they were, and r has the next step and the next test
pub record Walked (xs : List Step) (Ts : List Test) (b k : ℕ) (before after : List ℕ) (r : Next) : Type 0 where
  pub bracketed : Bracketed xs Ts b k after
  pub kept : (i : ℕ) → i < b → get_or after i 0 ≡ get_or before i 0
  pub small : Small before → Small after
  pub step : r.step ≡ b + length xs
  pub test : r.test ≡ k + length Ts

module _ (s : List ℕ) (at b k : ℕ) where
  -- a path stands at the offset, its steps have numbers below 16 and its tests below 64
  abbrev pub PathRoom : Type 0
  PathRoom = (P : XPath) × (j : ℕ) × PathAt s P at j × (b + size P ≤ positions) × (k + length (path_tests P) ≤ rule_tests)

  -- whatever path stands there
  abbrev pub Walks : List ℕ → List ℕ → Next → Type 0
  Walks before after r = (P : XPath) (j : ℕ) → PathAt s P at j → b + size P ≤ positions → k + length (path_tests P) ≤ rule_tests → Walked (steps P) (path_tests P) b k before after r
