-- Where the numbered tests of a rule stand.
use Rattle.std.specs.Prelude.{ℕ, ◌+◌, ◌≤◌, ◌<◌, ◌≡◌, List, length, get_or}
use Rattle.limits.specs.Limits.{rule_tests}
use Rattle.xpath.specs.Syntax.{Test}
use Rattle.rule_parts.specs.Standing.{TestAt}
use Rattle.test_numbers.specs.Tests.{tests_of, test}

-- offset k is that of test k
pub record Listed (s : List ℕ) (T : Test) (offsets : List ℕ) (count : ℕ) : Type 0 where
  pub all : count ≡ length (tests_of T)
  pub stands : (k : ℕ) → k < count → (j : ℕ) × TestAt s (test (tests_of T) k) (get_or offsets k 0) j

-- the tests Ts stand at the offsets from number k on, those below k are as they were, and r is the next number
pub record Written (s : List ℕ) (Ts : List Test) (k : ℕ) (before after : List ℕ) (r : ℕ) : Type 0 where
  pub stands : (e : ℕ) → e < length Ts → (j : ℕ) × TestAt s (test Ts e) (get_or after (k + e) 0) j
  pub kept : (i : ℕ) → i < k → get_or after i 0 ≡ get_or before i 0
  pub next : r ≡ k + length Ts

-- of what may stand at an offset, a test or a path: where it stands, and its tests
module _ {A : Type 0} (At : A → ℕ → ℕ → Type 0) (tests : A → List Test) (at k : ℕ) where
  -- one stands at the offset, and its tests have numbers below 64 from k on
  abbrev pub Room : Type 0
  Room = (x : A) × (j : ℕ) × At x at j × (k + length (tests x) ≤ rule_tests)

  -- whatever stands there, its tests are written from number k on
  abbrev pub Lists : List ℕ → List ℕ → List ℕ → ℕ → Type 0
  Lists s before after r = (x : A) (j : ℕ) → At x at j → k + length (tests x) ≤ rule_tests → Written s (tests x) k before after r
