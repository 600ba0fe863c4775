-- Constants: what `tokens::quoted_bytes` and `constant` conclude is what the machine does with a constant.
use Rattle.std.specs.Prelude.{Result}
use Prim.Native.Nat.{ℕ, zero, suc, ◌+◌, ◌-◌, ◌≤◌, ◌<◌}
use native.Mathlib.Omega.{arith}
use native.Mathlib.Numerals.{add-one}
use mathlib.Core.Path.{◌≡◌, refl, sym, ◌∙◌, subst, subst₂}
use mathlib.Core.Logic.{inr, ◌≢◌}
use mathlib.Core.Bool.{true, false}
use mathlib.Core.Option.{none, some}
use mathlib.Core.List.{List, [], ◌∷◌}
use lib.ListN.{length, get_or, drop, length-append}
use lib.Dec.{leb}
use borrow.Author.Tests.{ne_eqb}
use Rattle.limits.specs.Limits.{constant_bytes}
use Rattle.xpath.specs.Syntax.{Test}
use Rattle.rule_spec.specs.Bytes.{is_printable}
use Rattle.rule_spec.specs.Machine.{byte, quoted, operand, Stack, move, rest, Answer, stopped, close, Key}
use Rattle.rule_spec.specs.Readers.{Returns}
use Rattle.rule_spec.proofs.Comes.{comes_as, comes_none}
use Rattle.lexer.specs.declared.Class.TheVariants.{Text}
use Rattle.lexer.specs.Reading.{in_class}
use Rattle.tokens.specs.declared.read.Tally.{Tally}
use Rattle.tokens.specs.declared.read.Behind.{Behind}
use Rattle.tokens.specs.declared.read.Refusal.{Refusal}
use Rattle.tokens.specs.Tallies.{tallied}
use Rattle.tokens.specs.Readers.{Stands, Back, Halts, StuckAt, Reading}
use Rattle.tokens.proofs.Joins.{Fork, ForkParts, first_halts, fork_reads}
use Rattle.tokens.proofs.Places.{stands_at, at_end_lem, stuck_end, stuck_at, turns_halts, turns_returns}
use Rattle.tokens.proofs.Bytes.{Run, run_none, run_more, and_is}

-- ── Behind the opening quote ──
text_class : (b : ℕ) → in_class Text b ≡ is_printable b
unfolding is_printable
text_class b = and_is (leb 0x20 b) (leb b 0x7e)

abbrev pub QuotedRun : List ℕ → ℕ → ℕ → Type 0
QuotedRun s = Run s quoted (λ m b v. b ∷ v) (λ m v. length v) (λ m b v. refl) constant_bytes

module _ (s : List ℕ) where
  pub quoted_none : (at : ℕ) → QuotedRun s at at
  quoted_none = run_none s quoted (λ m b v. b ∷ v) (λ m v. length v) (λ m b v. refl) constant_bytes

  pub quoted_more : {at i : ℕ} (b : ℕ) → QuotedRun s at i → i < length s → get_or s i 0 ≡ b → b ≢ 34 → i - at ≢ constant_bytes → in_class Text b ≡ true → QuotedRun s at (i + 1)
  unfolding move
  quoted_more b r h e q full ok =
      run_more s quoted (λ m b v. b ∷ v) (λ m v. length v) (λ m b v. refl) constant_bytes b r h e full (λ m st. rw (ne_eqb b 34 q, sym (text_class b) ∙ ok) refl)

  pub quoted_ends : {at i k : ℕ} {t : Tally} → QuotedRun s at i → i < length s → get_or s i 0 ≡ 34 → k ≤ at → Back s (quoted constant_bytes) at k t (i + 1) k t
  unfolding move tallied
  quoted_ends {at} {i} {k} {t} r h e few =
      let z = r.here in let y = r.long [] in
      record {
        value = r.spelt [];
        forth = omega arith;
        inside = omega arith;
        long = omega arith;
        shallow = tt;
        returns = turns_returns s r.turns (subst (λ j. Returns (quoted r.more) [] [] i (drop i s) j (drop j s)) (sym (add-one i))
            (comes_as close stopped refl (sym (stands_at s h e).here) refl (comes_none close stopped (quoted r.more) 34 none [] (quote r.more))));
        steps = omega arith;
        few = omega arith;
        kept = refl;
      }
    where
      quote : (m : ℕ) (st : Stack) → move (quoted m ∷ st) 34 ≡ some (record { after = st; build = λ t. ([], t); begins = none })
      quote zero st = refl
      quote (suc m) st = refl

  -- the run ends where no constant goes on
  quoted_stuck : {at i : ℕ} (r : QuotedRun s at i) → StuckAt s i (quoted r.more) i → StuckAt s i (quoted constant_bytes) at
  quoted_stuck r h = turns_halts s _ r.turns h

  pub quoted_end : {at i : ℕ} → QuotedRun s at i → i ≡ length s → StuckAt s i (quoted constant_bytes) at
  unfolding rest
  quoted_end r e = quoted_stuck r (stuck_end s (at_end_lem s e) (λ st. refl))

  pub quoted_full : {at i : ℕ} → QuotedRun s at i → i < length s → get_or s i 0 ≢ 34 → i - at ≡ constant_bytes → StuckAt s i (quoted constant_bytes) at
  unfolding move
  quoted_full {at} {i} r h q e =
      let z : r.more ≡ 0 = (let x = r.here in let y = r.room in omega arith) in
      quoted_stuck r (subst (λ m. StuckAt s i (quoted m) i) (sym z) (stuck_at s (stands_at s h refl) (λ st. rw (ne_eqb _ 34 q) refl)))

  pub quoted_stops : {at i : ℕ} → QuotedRun s at i → i < length s → get_or s i 0 ≢ 34 → in_class Text (get_or s i 0) ≡ false → StuckAt s i (quoted constant_bytes) at
  unfolding move
  quoted_stops {at} {i} r h q e = quoted_stuck r (stuck_at s (stands_at s h refl) (refused r.more))
    where
      refused : (m : ℕ) (st : Stack) → move (quoted m ∷ st) (get_or s i 0) ≡ none
      refused zero st = rw (ne_eqb _ 34 q) refl
      refused (suc m) st = rw (ne_eqb _ 34 q, sym (text_class (get_or s i 0)) ∙ e) refl

  -- ── A constant, from its opening quote to the closing bracket ──
  constant_fork : (n : ℕ) → Fork (operand n) (quoted constant_bytes) (byte 41) 34 none
  unfolding move
  constant_fork n = record { join = λ c u. inr c; moves = λ st. refl }

  constant_parts : (n : ℕ) → ForkParts (λ i. []) 0 (operand n) (quoted constant_bytes) (byte 41) (λ c u. inr c)
  constant_parts n = record { parts = λ c u i. refl; wide = λ c u. let z = length-append c (34 ∷ 41 ∷ []) in omega arith; size = λ c u. refl }

  module _ {i : ℕ} (h : Stands s i 34) (n : ℕ) where
    pub constant_halts : (E : List Key → Answer Test → Type 0) → Halts s E (quoted constant_bytes) (i + 1) → Halts s E (operand n) i
    unfolding constant_fork
    constant_halts E q = first_halts s none h tt (constant_fork n) E (subst (Halts s E (quoted constant_bytes)) (add-one i) q)

    pub constant_reads : (k : ℕ) (t : Tally) {j l : ℕ} {u : Tally} → Back s (quoted constant_bytes) (i + 1) k t j l u → (r : Result Behind Refusal) → Reading s (byte 41) j l u r → Reading s (operand n) i k t r
    unfolding constant_fork tallied
    constant_reads k t {j} {l} {u} c r d =
        fork_reads s none h tt (constant_fork n) (λ i. []) refl 0 (constant_parts n) k t
        (subst₂ (λ m a. Back s (quoted constant_bytes) m a t j l u) (add-one i) (omega arith) c) r d
