-- Signs: what `tokens::read_sign` concludes is what the machine does with a sign of comparison.
use Prim.Native.Nat.{ℕ, suc, ◌+◌, ◌<◌}
use native.Mathlib.Omega.{arith}
use native.Mathlib.Numerals.{add-one}
use mathlib.Core.Path.{◌≡◌, refl, sym, subst}
use mathlib.Core.Logic.{◌⊎◌, ⊎_elim, ◌≢◌}
use mathlib.Core.Bool.{true, false}
use mathlib.Core.Option.{none, some}
use mathlib.Core.List.{List, [], ◌∷◌}
use lib.ListN.{length, get_or, drop}
use borrow.Author.Tests.{ne_eqb}
use Rattle.xpath.specs.Syntax.{Op, eq, ne, lt, le, gt, ge, Test}
use Rattle.rule_spec.specs.Spelling.{sign}
use Rattle.rule_spec.specs.Bytes.{choose}
use Rattle.rule_spec.specs.Machine.{byte, signed, or_equal, operand, Stack, Values, move, rest, over, stopped, close, Key}
use Rattle.rule_spec.specs.Readers.{goes}
use Rattle.rule_spec.proofs.Reading.{as_operand}
use Rattle.tokens.specs.Readers.{Lacks, Stands, StuckAt, Turns, Signs}
use Rattle.tokens.proofs.Joins.{Fork, first_halts}
use Rattle.tokens.proofs.Places.{stands_at, at_end_lem, stuck_end, stuck_at, turns_then, turns_byte}
use Rattle.tokens.proofs.Bytes.{byte_stuck}

module _ (s : List ℕ) where
  -- ── Any sign ──
  pub sign_forth : {o : Op} {i j : ℕ} → Signs s o i j → i < j
  sign_forth {o} h = go o h.long
    where
      go : (o : Op) {i j : ℕ} → j ≡ i + length (sign o) → i < j
      go eq e = omega arith
      go ne e = omega arith
      go lt e = omega arith
      go le e = omega arith
      go gt e = omega arith
      go ge e = omega arith

  pub equal_sign : {i : ℕ} → Stands s i 61 → Signs s eq i (i + 1)
  unfolding move
  equal_sign {i} h = record {
    inside = let z = h.inside in omega arith;
    long = refl;
    turns = λ n. subst (Turns s (signed n) (operand n) (λ w. (eq, w)) i) (sym (add-one i)) (turns_byte s (signed n) (operand n) (λ w. (eq, w)) h (λ st. refl));
  }

  -- ── < > <= >=: behind the first byte an operand is due unless = stands there ──
  no_equal : (n : ℕ) {i : ℕ} → Lacks 61 (drop i s) → Turns s (or_equal n) (operand n) (λ w. (false, w)) i i
  unfolding over rest
  no_equal n {i} h = record { turns = λ st f ks. go (drop i s) h st f ks }
    where
      go : (w : List ℕ) → Lacks 61 w → (st : Stack) (f : Values (or_equal n ∷ st) → Test) (ks : List Key)
          → goes {R = Test} close stopped (or_equal n ∷ st) f ks i w ≡ goes {R = Test} close stopped (operand n ∷ st) (λ t. f ((false, t.0), t.1)) ks i w
      go [] l st f ks = refl
      go (b ∷ w) l st f ks = as_operand close stopped n b w (ne_eqb b 61 l) st f ks i

  module _ {i b : ℕ} (h : Stands s i b) (with without : Op) (long : (length (sign with) ≡ 2) × (length (sign without) ≡ 1))
      (moves : (n : ℕ) (st : Stack) → move (signed n ∷ st) b ≡ some (record { after = or_equal n ∷ st; build = λ v. ((choose v.0.0 with without, v.0.1), v.1); begins = none })) where
    ordered : (n : ℕ) → Turns s (signed n) (or_equal n) (λ v. (choose v.0 with without, v.1)) i (suc i)
    ordered n = turns_byte s (signed n) (or_equal n) (λ v. (choose v.0 with without, v.1)) h (moves n)

    with_equal : Stands s (i + 1) 61 → Signs s with i (i + 2)
    unfolding move
    with_equal e = record {
      inside = let z = e.inside in omega arith;
      long = let z = long.0 in omega arith;
      turns = λ n.
          let two : suc (suc i) ≡ i + 2 = omega arith in
          subst (Turns s (signed n) (operand n) (λ w. (with, w)) i) two
          (turns_then s (ordered n) (turns_byte s (or_equal n) (operand n) (λ w. (true, w)) (subst (λ j. Stands s j 61) (add-one i) e) (λ st. refl)));
    }

    without_equal : Lacks 61 (drop (i + 1) s) → Signs s without i (i + 1)
    without_equal l = record {
      inside = let z = h.inside in omega arith;
      long = let z = long.1 in omega arith;
      turns = λ n.
          subst (Turns s (signed n) (operand n) (λ w. (without, w)) i) (sym (add-one i))
          (turns_then s (ordered n) (no_equal n (subst (λ j. Lacks 61 (drop j s)) (add-one i) l)));
    }

  module _ (i : ℕ) (h : i < length s) (b : (get_or s i 0 ≡ 60) ⊎ (get_or s i 0 ≡ 62)) where
    pub order_equal : Stands s (i + 1) 61 → (o : Op) × Signs s o i (i + 2)
    unfolding move
    order_equal l =
        ⊎_elim (λ e. (le, with_equal (stands_at s h e) le lt (refl, refl) (λ n st. refl) l)) (λ e. (ge, with_equal (stands_at s h e) ge gt (refl, refl) (λ n st. refl) l)) b

    pub order_alone : Lacks 61 (drop (i + 1) s) → (o : Op) × Signs s o i (i + 1)
    unfolding move
    order_alone l =
        ⊎_elim (λ e. (lt, without_equal (stands_at s h e) le lt (refl, refl) (λ n st. refl) l)) (λ e. (gt, without_equal (stands_at s h e) ge gt (refl, refl) (λ n st. refl) l)) b

  -- ── != and a lone !, which is no sign ──
  unequal_fork : (n : ℕ) → Fork (signed n) (byte 61) (operand n) 33 none
  unfolding move
  unequal_fork n = record { join = λ u w. (ne, w); moves = λ st. refl }

  pub unequal_stuck : {i : ℕ} → Stands s i 33 → Lacks 61 (drop (i + 1) s) → (n : ℕ) → StuckAt s (i + 1) (signed n) i
  unequal_stuck {i} h l n =
      first_halts s none h tt (unequal_fork n) _
      (subst (λ j. StuckAt s (i + 1) (byte 61) j) (add-one i) (byte_stuck s l))

  pub unequal_sign : {i : ℕ} → Stands s i 33 → Stands s (i + 1) 61 → Signs s ne i (i + 2)
  unfolding over move
  unequal_sign {i} h e = record {
    inside = let z = e.inside in omega arith;
    long = refl;
    turns = λ n.
        let two : suc (suc i) ≡ i + 2 = omega arith in
        subst (Turns s (signed n) (operand n) (λ w. (ne, w)) i) two
        (record { turns = λ st f ks. rw (h.here, (subst (λ j. Stands s j 61) (add-one i) e).here) refl });
  }

  -- ── No sign ──
  pub no_sign : {i b : ℕ} → Stands s i b → b ≢ 61 → b ≢ 33 → b ≢ 60 → b ≢ 62 → (n : ℕ) → StuckAt s i (signed n) i
  unfolding move
  no_sign {i} {b} h p q r t n = stuck_at s h (λ st. rw (ne_eqb b 61 p, ne_eqb b 33 q, ne_eqb b 60 r, ne_eqb b 62 t) refl)

  pub no_sign_end : {i : ℕ} → i ≡ length s → (n : ℕ) → StuckAt s i (signed n) i
  unfolding rest
  no_sign_end e n = stuck_end s (at_end_lem s e) (λ st. refl)
