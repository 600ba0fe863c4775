-- The number of a count: what digits the machine takes for it, what number they make, and where they end.
use Rattle.std.specs.Prelude.{ℕ, suc, ◌+◌, ◌-◌, ◌*◌, List, [], ◌∷◌}
use Rattle.rule_spec.specs.Bytes.{choose, is_digit}
use Rattle.rule_spec.specs.Machine.{goes_on}
use Rattle.tokens.specs.declared.Digits.{Digits}

abbrev pub told : ℕ → ℕ → Digits
told n o = record { value = n; next = o }

-- the digits before o make n, and the rule goes on with w
unfoldable pub figured : ℕ → ℕ → List ℕ → Digits
figured n o [] = told n o
figured n o (b ∷ w) = choose (goes_on n b) (figured (n * 10 + (b - 48)) (suc o) w) (told n o)

-- from o on; no digits make 0
unfoldable pub numbered : ℕ → List ℕ → Digits
numbered o [] = told 0 o
numbered o (b ∷ w) = choose (is_digit b) (figured (b - 48) (suc o) w) (told 0 o)
