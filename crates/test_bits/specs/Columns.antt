-- Test bits: each node has a bit for each test of the rule; bit k says whether test k holds there.
use Rattle.std.specs.Prelude.{ℕ, ◌+◌, ◌/◌, ◌%◌, ◌<◌, ◌≡◌, ◌≢◌, ◌↔◌, Bool, true, List}
use Rattle.limits.specs.Limits.{rule_tests, word_bits}
use Rattle.bits.specs.Sets.{bit}
use Rattle.layout.specs.Words.{word, Within}
use Rattle.layout.specs.Table.{TESTS}

-- the words that the tests of a rule take at each node
abbrev pub test_words : ℕ
test_words = rule_tests / word_bits

-- bit k of node v
abbrev pub held : List ℕ → ℕ → ℕ → ℕ → Bool
held t n k v = bit (word t n (TESTS + k / word_bits) v) (k % word_bits)

-- bit k says at each node whether A holds there, and all else is as before
pub record Settled (n k : ℕ) (A : ℕ → Type 0) (t t' : List ℕ) : Type 0 where
  pub done : (v : ℕ) → v < n → (held t' n k v ≡ true) ↔ A v
  pub others : (i v : ℕ) → i < rule_tests → i ≢ k → v < n → held t' n i v ≡ held t n i v
  pub within : Within n TESTS (TESTS + test_words) t t'

-- bit k of node v is b, and all else is as before
pub record Noted (n k v : ℕ) (b : Bool) (t t' : List ℕ) : Type 0 where
  pub here : held t' n k v ≡ b
  pub others : (i u : ℕ) → i < rule_tests → u < n → ¬ ((i ≡ k) × (u ≡ v)) → held t' n i u ≡ held t n i u
  pub within : Within n TESTS (TESTS + test_words) t t'
