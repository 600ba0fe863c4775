-- The first byte of a test or a path: what it begins, and that a part too deep is met there.
use Rattle.std.specs.Prelude.{Some, None, Ok, Err}
use Prim.Native.Nat.{ℕ, suc, ◌≤◌, ◌<◌}
use mathlib.Core.Path.{◌≡◌, refl, sym, ap}
use mathlib.Core.Logic.{inl, inr, ◌≢◌}
use mathlib.Core.Option.{some}
use mathlib.Core.List.{List, [], ◌∷◌}
use lib.ListN.{length, get_or}
use borrow.Author.Tests.{ne_eqb}
use Rattle.limits.specs.Limits.{rule_nesting}
use Rattle.rule_spec.specs.Machine.{Symbol, test, path, Stack, Values, move, rest, stopped, close}
use Rattle.rule_spec.proofs.Comes.{ends_as, meets_here}
use Rattle.tokens.specs.declared.heads.TestHead.{TestHead}
use Rattle.tokens.specs.declared.heads.TestHead.TheVariants.{Name, Not, TwoTests, Comparison, Count}
use Rattle.tokens.specs.declared.heads.PathHead.{PathHead}
use Rattle.tokens.specs.declared.heads.PathHead.TheVariants.{Empty, Step, Bracket, TwoPaths, Star}
use Rattle.tokens.specs.declared.read.Refusal.TheVariants.{Stuck, Deep}
use Rattle.tokens.specs.Readers.{Stands, DeepAt}
use Rattle.tokens.specs.Heads.{TestByte, PathByte, TestBegins, PathBegins}
use Rattle.tokens.proofs.Places.{stands_at, at_end_lem, stuck_end, stuck_at}

-- ── A byte that begins nothing ──
pub no_test : (b : ℕ) → b ≢ 58 → b ≢ 33 → ¬ TestByte b (Some TwoTests) → b ≢ 40 → b ≢ 35 → TestByte b None
unfolding move
no_test b p q r t u = λ n st. rw (ne_eqb b 58 p, ne_eqb b 33 q, ne_eqb b 38 (λ e. r (inl e)), ne_eqb b 124 (λ e. r (inr e)), ne_eqb b 40 t, ne_eqb b 35 u) refl

pub no_path : (b : ℕ) → b ≢ 101 → ¬ PathByte b (Some Step) → b ≢ 91 → ¬ PathByte b (Some TwoPaths) → b ≢ 42 → PathByte b None
unfolding move
no_path b p q r t u = λ n st. rw (
  ne_eqb b 101 p,
  ne_eqb b 108 (λ e. q (inr (inr (inl e)))),
  ne_eqb b 114 (λ e. q (inr (inr (inr e)))),
  ne_eqb b 76 (λ e. q (inl e)),
  ne_eqb b 82 (λ e. q (inr (inl e))),
  ne_eqb b 91 r,
  ne_eqb b 46 (λ e. t (inr e)),
  ne_eqb b 43 (λ e. t (inl e)),
  ne_eqb b 42 u,
) refl

module _ (s : List ℕ) where
  -- ── Nothing begins ──
  pub test_end : {i n : ℕ} → i ≡ length s → TestBegins s i n (Err (Stuck i))
  unfolding rest
  test_end e = (refl, stuck_end s (at_end_lem s e) (λ st. refl))

  pub path_end : {i n : ℕ} → i ≡ length s → PathBegins s i n (Err (Stuck i))
  unfolding rest
  path_end e = (refl, stuck_end s (at_end_lem s e) (λ st. refl))

  -- a part of nesting 33 is met at its first byte
  met : (x : Symbol) {i b n : ℕ} → Stands s i b → n ≡ suc rule_nesting → (front : Stack → Stack) (g : (st : Stack) → Values (front st) → Values (x ∷ st))
      → ((st : Stack) → move (x ∷ st) b ≡ some (record { after = front st; build = g st; begins = some n })) → DeepAt s i x i
  met x {i} {b} {n} h e front g m =
      record { seen = []; shallow = tt; ends = ends_as close stopped refl (sym h.here) (meets_here close stopped x b (some n) front g m (ap some e)) }

  module _ {i n : ℕ} (r : i < length s) where
    pub test_stuck : TestByte (get_or s i 0) None → TestBegins s i n (Err (Stuck i))
    test_stuck e = (refl, stuck_at s (stands_at s r refl) (e n))

    pub path_stuck : PathByte (get_or s i 0) None → PathBegins s i n (Err (Stuck i))
    path_stuck e = (refl, stuck_at s (stands_at s r refl) (e n))

    -- ── No deeper than is allowed ──
    pub test_begins : n ≤ rule_nesting → (h : TestHead) → TestByte (get_or s i 0) (Some h) → TestBegins s i n (Ok h)
    test_begins l h e = (_, e, stands_at s r refl, l)

    pub path_begins : n ≤ rule_nesting → (h : PathHead) → PathByte (get_or s i 0) (Some h) → PathBegins s i n (Ok h)
    path_begins l h e = (_, e, stands_at s r refl, l)

    -- ── Too deep ──
    test_deep : n ≡ suc rule_nesting → (h : TestHead) → TestByte (get_or s i 0) (Some h) → DeepAt s i (test n) i
    unfolding move
    test_deep d Name e = met (test n) (stands_at s r e) d _ _ (λ st. refl)
    test_deep d Not e = met (test n) (stands_at s r e) d _ _ (λ st. refl)
    test_deep d TwoTests (inl e) = met (test n) (stands_at s r e) d _ _ (λ st. refl)
    test_deep d TwoTests (inr e) = met (test n) (stands_at s r e) d _ _ (λ st. refl)
    test_deep d Comparison e = met (test n) (stands_at s r e) d _ _ (λ st. refl)
    test_deep d Count e = met (test n) (stands_at s r e) d _ _ (λ st. refl)

    pub test_met : n ≡ suc rule_nesting → (h : TestHead) → TestByte (get_or s i 0) (Some h) → TestBegins s i n (Err (Deep i))
    test_met d h e = (refl, test_deep d h e)

    path_deep : n ≡ suc rule_nesting → (h : PathHead) → PathByte (get_or s i 0) (Some h) → DeepAt s i (path n) i
    unfolding move
    path_deep d Empty e = met (path n) (stands_at s r e) d _ _ (λ st. refl)
    path_deep d Step (inl e) = met (path n) (stands_at s r e) d _ _ (λ st. refl)
    path_deep d Step (inr (inl e)) = met (path n) (stands_at s r e) d _ _ (λ st. refl)
    path_deep d Step (inr (inr (inl e))) = met (path n) (stands_at s r e) d _ _ (λ st. refl)
    path_deep d Step (inr (inr (inr e))) = met (path n) (stands_at s r e) d _ _ (λ st. refl)
    path_deep d Bracket e = met (path n) (stands_at s r e) d _ _ (λ st. refl)
    path_deep d TwoPaths (inl e) = met (path n) (stands_at s r e) d _ _ (λ st. refl)
    path_deep d TwoPaths (inr e) = met (path n) (stands_at s r e) d _ _ (λ st. refl)
    path_deep d Star e = met (path n) (stands_at s r e) d _ _ (λ st. refl)

    pub path_met : n ≡ suc rule_nesting → (h : PathHead) → PathByte (get_or s i 0) (Some h) → PathBegins s i n (Err (Deep i))
    path_met d h e = (refl, path_deep d h e)
