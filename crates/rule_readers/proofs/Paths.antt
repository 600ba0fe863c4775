-- The readers of paths conclude as the machine does from what stands inside: steps, `*P`, `.PP`, `+PP` and `[T]`.
use Rattle.std.specs.Prelude.{Result, Ok, Some}
use Prim.Native.Nat.{ℕ, suc, ◌+◌, ◌≤◌}
use native.Mathlib.Omega.{arith}
use native.Mathlib.Numerals.{add-one}
use mathlib.Core.Path.{◌≡◌, refl, sym, ap, subst, subst₂}
use mathlib.Core.Logic.{inl, inr, ⊎_elim}
use mathlib.Core.Option.{some}
use mathlib.Core.List.{List, [], ◌∷◌, ◌++◌, append-nil}
use lib.ListN.{length, length-append}
use Rattle.limits.specs.Limits.{rule_nesting}
use Rattle.xpath.specs.Syntax.{Test, XPath, empty, one, seq, union, star, to_left, to_right, from_left, from_right, stay, steps}
use Rattle.rule_spec.specs.Spelling.{spell_test, spell_path, spell_step}
use Rattle.rule_spec.specs.Parts.{Sort, test_parts, path_parts, step_parts}
use Rattle.rule_spec.specs.Machine.{test, path, byte, Stack, move, Answer, Key}
use Rattle.tokens.specs.declared.read.Tally.{Tally}
use Rattle.tokens.specs.declared.read.Behind.{Behind}
use Rattle.tokens.specs.declared.read.Refusal.{Refusal}
use Rattle.tokens.specs.declared.heads.PathHead.TheVariants as head
use Rattle.tokens.specs.Tallies.{noted, tallied}
use Rattle.tokens.specs.Readers.{Stands, Back, Halts, Reading}
use Rattle.tokens.specs.Heads.{PathByte, PathBegins}
use Rattle.tokens.proofs.Joins.{leaf_back, Lead, LeadParts, lead_reads, Fork, ForkParts, first_halts, fork_reads}
use Rattle.rule_readers.proofs.Tests.{only}

-- ── e l r L R ──
module _ (s : List ℕ) {i n : ℕ} where
  leaf : (b : ℕ) (P : XPath) → ((st : Stack) → move (path n ∷ st) b ≡ some (record { after = st; build = λ t. (P, t); begins = some n })) → path_parts P i n ≡ only n Sort.path i
      → length (spell_path P) ≡ 1 → {k l : ℕ} {t : Tally} → Stands s i b → n ≤ rule_nesting → l ≡ k + length (steps P) → l ≤ i + 1 → Back s (path n) i k t (i + 1) l t
  unfolding noted tallied
  leaf b P m p w h low e few = leaf_back s (some n) h (low, tt) (record { value = P; moves = m }) (only n Sort.path i) p refl w (add-one i) e few refl

  pub empty_back : {k : ℕ} {t : Tally} → PathBegins s i n (Ok head.Empty) → k ≤ i → Back s (path n) i k t (i + 1) k t
  unfolding move path_parts spell_path
  empty_back (b, e, h, low) few = leaf 101 empty (λ st. refl) refl refl (subst (Stands s i) e h) low (omega arith) (omega arith)

  pub step_back : {k : ℕ} {t : Tally} → PathBegins s i n (Ok head.Step) → k ≤ i → Back s (path n) i k t (i + 1) (k + 1) t
  unfolding move path_parts step_parts spell_path spell_step
  step_back {k} {t} (b, e, h, low) few = go e
    where
      go : PathByte b (Some head.Step) → Back s (path n) i k t (i + 1) (k + 1) t
      go (inl e) = leaf 76 (one from_left) (λ st. refl) refl refl (subst (Stands s i) e h) low (omega arith) (omega arith)
      go (inr (inl e)) = leaf 82 (one from_right) (λ st. refl) refl refl (subst (Stands s i) e h) low (omega arith) (omega arith)
      go (inr (inr (inl e))) = leaf 108 (one to_left) (λ st. refl) refl refl (subst (Stands s i) e h) low (omega arith) (omega arith)
      go (inr (inr (inr e))) = leaf 114 (one to_right) (λ st. refl) refl refl (subst (Stands s i) e h) low (omega arith) (omega arith)

-- ── *P ──
star_lead : (n : ℕ) → Lead (path n) (path (suc n)) 42 (some n)
unfolding move
star_lead n = record { join = star; moves = λ st. refl }

star_parts : (n : ℕ) → LeadParts (only n Sort.path) (path n) (path (suc n)) star
unfolding path_parts spell_path
star_parts n = record { parts = λ v i. refl; wide = λ v. refl; size = λ v. refl }

-- ── .PP and +PP ──
seq_fork : (n : ℕ) → Fork (path n) (path (suc n)) (path (suc n)) 46 (some n)
unfolding move
seq_fork n = record { join = seq; moves = λ st. refl }

union_fork : (n : ℕ) → Fork (path n) (path (suc n)) (path (suc n)) 43 (some n)
unfolding move
union_fork n = record { join = union; moves = λ st. refl }

seq_parts : (n : ℕ) → ForkParts (only n Sort.path) 0 (path n) (path (suc n)) (path (suc n)) seq
unfolding path_parts spell_path
seq_parts n = record {
  parts = λ v w i. refl;
  wide = λ v w. ap suc (length-append (spell_path v) (spell_path w));
  size = λ v w. let a = length-append (steps v) (steps w) in omega arith;
}

union_parts : (n : ℕ) → ForkParts (only n Sort.path) 0 (path n) (path (suc n)) (path (suc n)) union
unfolding path_parts spell_path
union_parts n = record {
  parts = λ v w i. refl;
  wide = λ v w. ap suc (length-append (spell_path v) (spell_path w));
  size = λ v w. let a = length-append (steps v) (steps w) in omega arith;
}

-- ── [T]: one step, whatever stands inside ──
bracket_fork : (n : ℕ) → Fork (path n) (test (suc n)) (byte 93) 91 (some n)
unfolding move
bracket_fork n = record { join = λ T u. one (stay T); moves = λ st. refl }

bracket_parts : (n : ℕ) → ForkParts (only n Sort.path) 1 (path n) (test (suc n)) (byte 93) (λ T u. one (stay T))
unfolding path_parts step_parts spell_path spell_step
bracket_parts n = record {
  parts = λ T u i. ap (λ ps. only n Sort.path i ++ ps) (sym (append-nil (test_parts T (suc i) (suc n))));
  wide = λ T u. ap suc (length-append (spell_test T) (93 ∷ []));
  size = λ T u. refl;
}

-- ── What the reader of a path concludes ──
module _ (s : List ℕ) {i n : ℕ} where
  pub star_reads : PathBegins s i n (Ok head.Star) → (k : ℕ) (t : Tally) (r : Result Behind Refusal) → Reading s (path (n + 1)) (i + 1) k t r → Reading s (path n) i k t r
  unfolding star_lead noted tallied
  star_reads (b, e, h, l) k t r d =
      lead_reads s (some n) (subst (Stands s i) e h) (l, tt) (star_lead n) (only n Sort.path) refl (star_parts n) k t r
      (subst₂ (λ m j. Reading s (path m) j k t r) (add-one n) (add-one i) d)

  pub two_halts : PathBegins s i n (Ok head.TwoPaths) → (E : List Key → Answer Test → Type 0) → Halts s E (path (n + 1)) (i + 1) → Halts s E (path n) i
  two_halts (b, e, h, l) E d =
      let d' = subst₂ (λ m j. Halts s E (path m) j) (add-one n) (add-one i) d in
      ⊎_elim (λ e. first_halts s (some n) (subst (Stands s i) e h) (l, tt) (union_fork n) E d') (λ e. first_halts s (some n) (subst (Stands s i) e h) (l, tt) (seq_fork n) E d') e

  pub two_reads : PathBegins s i n (Ok head.TwoPaths) → (k : ℕ) (t : Tally) {j l : ℕ} {u : Tally} → Back s (path (n + 1)) (i + 1) k t j l u
      → (r : Result Behind Refusal) → Reading s (path (n + 1)) j l u r → Reading s (path n) i k t r
  unfolding seq_fork union_fork noted tallied
  two_reads (b, e, h, low) k t {j = j} {l = l} {u = u} c r d =
      let same : k ≡ k + 0 = omega arith in
      let c' = subst₂ (λ m a. Back s (path m) (suc i) a t j l u) (add-one n) same (subst (λ a. Back s (path (n + 1)) a k t j l u) (add-one i) c) in
      let d' = subst (λ m. Reading s (path m) j l u r) (add-one n) d in
      ⊎_elim (λ e. fork_reads s (some n) (subst (Stands s i) e h) (low, tt) (union_fork n) (only n Sort.path) refl 0 (union_parts n) k t c' r d')
      (λ e. fork_reads s (some n) (subst (Stands s i) e h) (low, tt) (seq_fork n) (only n Sort.path) refl 0 (seq_parts n) k t c' r d') e

  pub bracket_halts : PathBegins s i n (Ok head.Bracket) → (E : List Key → Answer Test → Type 0) → Halts s E (test (n + 1)) (i + 1) → Halts s E (path n) i
  bracket_halts (b, e, h, l) E d =
      first_halts s (some n) (subst (Stands s i) e h) (l, tt) (bracket_fork n) E (subst₂ (λ m j. Halts s E (test m) j) (add-one n) (add-one i) d)

  pub bracket_reads : PathBegins s i n (Ok head.Bracket) → (k : ℕ) (t : Tally) {j l : ℕ} {u : Tally} → Back s (test (n + 1)) (i + 1) (k + 1) t j l u
      → (r : Result Behind Refusal) → Reading s (byte 93) j l u r → Reading s (path n) i k t r
  unfolding bracket_fork noted tallied
  bracket_reads (b, e, h, low) k t {j = j} {l = l} {u = u} c r d =
      fork_reads s (some n) (subst (Stands s i) e h) (low, tt) (bracket_fork n) (only n Sort.path) refl 1 (bracket_parts n) k t
      (subst₂ (λ m a. Back s (test m) a (k + 1) t j l u) (add-one n) (add-one i) c) r d
