-- The tests of a rule in some order, by their numbers: 02, (k).
use Rattle.std.specs.Prelude.{ℕ, suc, ◌+◌, ◌-◌, ◌≤◌, ◌<◌, ◌≡◌, List, length, get_or}
use Rattle.lists.specs.Lists.{All, Occurs, Distinct}
use Rattle.xpath.specs.Syntax.{Test}
use Rattle.test_numbers.specs.Tests.{tests_of, test, inside}

module _ (T : Test) where
  -- test i begins inside test k: these tests have the numbers right behind k
  abbrev pub Inside : ℕ → ℕ → Type 0
  Inside k i = (k < i) × (i ≤ k + length (inside (test (tests_of T) k)))

  -- a list of tests, none of them twice, in which all tests inside one stand before it
  pub record InnerFirst (ks : List ℕ) : Type 0 where
    pub numbers : All (λ k. k < length (tests_of T)) ks
    pub once : Distinct ks
    pub inner : (j i : ℕ) → j < length ks → Inside (get_or ks j 0) i → (l : ℕ) × (l < j) × (get_or ks l 0 ≡ i)

  -- the list has every test of the rule
  abbrev pub EachTest : List ℕ → Type 0
  EachTest ks = (k : ℕ) → k < length (tests_of T) → Occurs k ks

-- the list begins with the numbers below n, from the last to the first
abbrev pub Falling : ℕ → List ℕ → Type 0
Falling n ks = (i : ℕ) → i < n → get_or ks i 0 ≡ n - suc i
