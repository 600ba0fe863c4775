-- Bytes as the readers of `tokens` take them: one that closes something, and several one behind the other.
use Prim.Native.Nat.{ℕ, zero, suc, ◌+◌, ◌-◌, ◌≤◌, ◌<◌}
use native.Mathlib.Omega.{arith}
use native.Mathlib.Numerals.{add-one}
use mathlib.Core.Path.{◌≡◌, refl, sym, subst}
use mathlib.Core.Logic.{◌≢◌}
use mathlib.Core.Bool.{Bool, true, false, ◌&&◌}
use mathlib.Core.Option.{none, some}
use mathlib.Core.List.{List, [], ◌∷◌}
use lib.ListN.{length, get_or, drop}
use borrow.Author.Tests.{eq-eqb, ne_eqb}
use Rattle.rule_spec.specs.Bytes.{choose}
use Rattle.rule_spec.specs.Machine.{Symbol, byte, Stack, Value, move, rest}
use Rattle.tokens.specs.declared.read.Tally.{Tally}
use Rattle.tokens.specs.Tallies.{tallied}
use Rattle.tokens.specs.Readers.{Lacks, Stands, Back, StuckAt, Turns}
use Rattle.tokens.proofs.Joins.{leaf_back}
use Rattle.tokens.proofs.Places.{stands_at, stands_cons, stuck_end, stuck_at, turns_here, turns_then, turns_byte}

-- ── A byte ──
module _ (s : List ℕ) where
  pub byte_back : {x i k j : ℕ} {t : Tally} → Stands s i x → j ≡ suc i → k ≤ i → Back s (byte x) i k t j k t
  unfolding move tallied
  byte_back {x} h e few =
      leaf_back s none h tt (record { value = tt; moves = λ st. rw (eq-eqb x x refl) refl }) [] refl refl refl e (omega arith) (omega arith) refl

  pub byte_stuck : {x i : ℕ} → Lacks x (drop i s) → StuckAt s i (byte x) i
  unfolding move rest
  byte_stuck {x} {i} h = go (drop i s) refl h
    where
      go : (w : List ℕ) → drop i s ≡ w → Lacks x w → StuckAt s i (byte x) i
      go [] e l = stuck_end s e (λ st. refl)
      go (b ∷ w) e l = stuck_at s (stands_cons s e) (λ st. rw (ne_eqb b x l) refl)

-- ── Bytes one behind the other ──
-- a symbol x m has room for m more bytes: put takes one up
module _ (s : List ℕ) (x : ℕ → Symbol) (put : (m : ℕ) → ℕ → Value (x m) → Value (x (suc m))) (size : (m : ℕ) → Value (x m) → ℕ)
    (sized : (m b : ℕ) (v : Value (x m)) → size (suc m) (put m b v) ≡ suc (size m v)) (most : ℕ) where
  -- from at to i the machine has taken up so many bytes
  pub record Run (at i : ℕ) : Type 0 where
    pub more : ℕ
    pub done : ℕ
    pub spelt : Value (x more) → Value (x most)
    pub room : done + more ≡ most
    pub here : at + done ≡ i
    pub long : (v : Value (x more)) → size most (spelt v) ≡ done + size more v
    pub turns : Turns s (x most) (x more) spelt at i

  pub run_none : (at : ℕ) → Run at at
  run_none at = record { more = most; done = 0; spelt = λ v. v; room = omega arith; here = omega arith; long = λ v. omega arith; turns = turns_here s }

  pub run_more : {at i : ℕ} (b : ℕ) → Run at i → i < length s → get_or s i 0 ≡ b → i - at ≢ most
      → ((m : ℕ) (st : Stack) → move (x (suc m) ∷ st) b ≡ some (record { after = x m ∷ st; build = λ t. (put m b t.0, t.1); begins = none })) → Run at (i + 1)
  run_more {at} {i} b r h e full moves = go r.more r.spelt r.long r.turns r.room
    where
      go : (n : ℕ) (g : Value (x n) → Value (x most)) → ((v : Value (x n)) → size most (g v) ≡ r.done + size n v) → Turns s (x most) (x n) g at i → r.done + n ≡ most → Run at (i + 1)
      go zero g l c k = absurd (full (let z = r.here in omega arith))
      go (suc m) g l c k = record {
        more = m;
        done = suc r.done;
        spelt = λ v. g (put m b v);
        room = omega arith;
        here = let z = r.here in omega arith;
        long = λ v. let z = l (put m b v) in let y = sized m b v in omega arith;
        turns = subst (λ j. Turns s (x most) (x m) (λ v. g (put m b v)) at j) (sym (add-one i))
            (turns_then s c (turns_byte s (x (suc m)) (x m) (put m b) (stands_at s h e) (moves m)));
      }

-- ── The two tests of a range of bytes, as the classes of lines and of rules have them ──
pub and_is : (x y : Bool) → (x && y) ≡ choose x y false
and_is true y = refl
and_is false y = refl
