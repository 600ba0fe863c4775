-- What a byte begins, where a test or a path is due.
use Rattle.std.specs.Prelude.{ℕ, ◌≤◌, ◌≡◌, ◌⊎◌, List, ◌∷◌, Option, Some, None, Result, Ok, Err}
use Rattle.std.proofs.Math.Option.{none}
use Rattle.limits.specs.Limits.{rule_nesting}
use Rattle.rule_spec.specs.Machine.{test, path, move, Stack}
use Rattle.tokens.specs.declared.heads.TestHead.{TestHead}
use Rattle.tokens.specs.declared.heads.TestHead.TheVariants.{Name, Not, TwoTests, Comparison, Count}
use Rattle.tokens.specs.declared.heads.PathHead.{PathHead}
use Rattle.tokens.specs.declared.heads.PathHead.TheVariants.{Empty, Step, Bracket, TwoPaths, Star}
use Rattle.tokens.specs.declared.read.Refusal.{Refusal}
use Rattle.tokens.specs.declared.read.Refusal.TheVariants.{Stuck, Deep}
use Rattle.tokens.specs.Readers.{Stands, StuckAt, DeepAt}

abbrev pub TestByte : ℕ → Option TestHead → Type 0
TestByte b (Some Name) = b ≡ 58
TestByte b (Some Not) = b ≡ 33
TestByte b (Some TwoTests) = (b ≡ 38) ⊎ (b ≡ 124)
TestByte b (Some Comparison) = b ≡ 40
TestByte b (Some Count) = b ≡ 35
TestByte b None = (n : ℕ) (st : Stack) → move (test n ∷ st) b ≡ none

abbrev pub PathByte : ℕ → Option PathHead → Type 0
PathByte b (Some Empty) = b ≡ 101
PathByte b (Some Step) = (b ≡ 76) ⊎ (b ≡ 82) ⊎ (b ≡ 108) ⊎ (b ≡ 114)
PathByte b (Some Bracket) = b ≡ 91
PathByte b (Some TwoPaths) = (b ≡ 43) ⊎ (b ≡ 46)
PathByte b (Some Star) = b ≡ 42
PathByte b None = (n : ℕ) (st : Stack) → move (path n ∷ st) b ≡ none

module _ (s : List ℕ) (i n : ℕ) where
  -- a part of a kind begins, no deeper than is allowed
  abbrev Begun : (ℕ → Type 0) → Type 0
  Begun B = (b : ℕ) × B b × Stands s i b × (n ≤ rule_nesting)

  -- or the rule is refused at i itself
  abbrev pub TestBegins : Result TestHead Refusal → Type 0
  TestBegins (Ok h) = Begun (λ b. TestByte b (Some h))
  TestBegins (Err (Stuck j)) = (j ≡ i) × StuckAt s i (test n) i
  TestBegins (Err (Deep j)) = (j ≡ i) × DeepAt s i (test n) i

  abbrev pub PathBegins : Result PathHead Refusal → Type 0
  PathBegins (Ok h) = Begun (λ b. PathByte b (Some h))
  PathBegins (Err (Stuck j)) = (j ≡ i) × StuckAt s i (path n) i
  PathBegins (Err (Deep j)) = (j ≡ i) × DeepAt s i (path n) i
