-- What a reader that takes another by `?` hands on when that one is refused.
use Rattle.std.specs.Prelude.{Result, Ok, Err, IsErrAnd}
use Prim.Native.Nat.{ℕ}
use mathlib.Core.Path.{◌≡◌, sym, subst}
use mathlib.Core.List.{List}
use Rattle.rule_spec.specs.Machine.{Symbol}
use Rattle.tokens.specs.declared.read.Tally.{Tally}
use Rattle.tokens.specs.declared.read.Behind.{Behind}
use Rattle.tokens.specs.declared.read.Refusal.{Refusal}
use Rattle.tokens.specs.Readers.{RefusedAt, Reading}

pub handed_on : (s : List ℕ) (x : Symbol) (i k : ℕ) (t : Tally) (e : Refusal) (r : Result Behind Refusal) → IsErrAnd r (λ d. d ≡ e) → RefusedAt s e x i → Reading s x i k t r
handed_on s x i k t e (Ok b) d h = absurd d
handed_on s x i k t e (Err f) d h = subst (λ e. RefusedAt s e x i) (sym d) h
