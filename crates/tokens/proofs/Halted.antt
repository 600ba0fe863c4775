-- What a reader does with the answer of the one that it called.
use Rattle.std.specs.Prelude.{Result, Ok, Err, IsErr}
use Prim.Native.Nat.{ℕ}
use mathlib.Core.Path.{◌≡◌, subst}
use mathlib.Core.Bool.{false≢true}
use mathlib.Core.List.{List}
use Rattle.xpath.specs.Syntax.{Test}
use Rattle.rule_spec.specs.Machine.{Symbol, Answer, Key}
use Rattle.tokens.specs.declared.read.Tally.{Tally}
use Rattle.tokens.specs.declared.read.Behind.{Behind}
use Rattle.tokens.specs.declared.read.Refusal.{Refusal}
use Rattle.tokens.specs.Readers.{Back, Halts, Reading}

-- it is behind the part
pub back : (s : List ℕ) (x : Symbol) (i k : ℕ) (t : Tally) {r : Result Behind Refusal} {b : Behind} → r ≡ Ok b → Reading s x i k t r → Back s x i k t b.next b.steps b.tally
back s x i k t e h = subst (Reading s x i k t) e h

-- it is not, and passes through
pub halted : {s : List ℕ} {x y : Symbol} {i j : ℕ} → ((E : List Key → Answer Test → Type 0) → Halts s E y j → Halts s E x i)
    → (k l : ℕ) (t u : Tally) (r : Result Behind Refusal) → IsErr r → Reading s y j l u r → Reading s x i k t r
halted f k l t u (Ok b) o h = absurd (false≢true o)
halted f k l t u (Err e) o h = f _ h
