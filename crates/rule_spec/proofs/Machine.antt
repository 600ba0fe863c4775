-- The machine on a text: its run, and its answer, which is either read or stopped.
use Prim.Native.Nat.{ℕ}
use native.Mathlib.Omega.{arith}
use mathlib.Core.Path.{◌≡◌}
use mathlib.Core.Option.{Option, none, some}
use mathlib.Core.List.{List, [], ◌∷◌}
use Rattle.xpath.specs.Syntax.{Test}
use Rattle.rule_spec.specs.Machine.{test, Key, State, state, over, Answer, read, stopped, close}

module _ {R : Type 0} where
  -- the state behind a text, if no byte of it is refused
  abbrev pub run : State R → List ℕ → Option (State R)
  run = over some (λ ks o. none)

  abbrev pub answer : State R → List ℕ → Answer R
  answer = over close stopped

pub read_inj : {R : Type 0} {x y : R} {ks ls : List Key} → read x ks ≡ read y ls → (x ≡ y) × (ks ≡ ls)
read_inj e = (cc, cc)

pub read_not_stopped : {R : Type 0} {x : R} {ks ls : List Key} {o : ℕ} → ¬ (read x ks ≡ stopped ls o)
read_not_stopped e = let z : ◌≡◌ {A = ℕ} 0 1 = cc in omega arith

-- a rule is a test with nesting 1
abbrev pub rule_start : State Test
rule_start = state (test 1 ∷ []) (λ v. v.0) [] 0
