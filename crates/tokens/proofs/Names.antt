-- Names: what `tokens::name_end` and `name` conclude is what the machine does with a name.
use Prim.Native.Nat.{ℕ, ◌+◌, ◌-◌, ◌≤◌, ◌<◌}
use native.Mathlib.Omega.{arith}
use native.Mathlib.Numerals.{add-one}
use mathlib.Core.Path.{◌≡◌, refl, sym, ◌∙◌, subst, subst₂}
use mathlib.Core.Logic.{◌≢◌}
use mathlib.Core.Bool.{Bool, true, false, ◌||◌}
use mathlib.Core.List.{List, [], ◌∷◌}
use lib.ListN.{length, get_or, drop}
use lib.Seq.{drop-cons}
use lib.Dec.{eqb, leb}
use Rattle.lists.specs.Text.{Letter}
use Rattle.rule_spec.specs.Bytes.{choose, is_letter, is_name_byte}
use Rattle.rule_spec.specs.Machine.{label, tail, move}
use Rattle.rule_spec.specs.Readers.{Unnamed, Returns}
use Rattle.rule_spec.proofs.Bytes.{letter_iff, nameByte_iff, clash}
use Rattle.rule_spec.proofs.Readers.{name_ends, name_full}
use Rattle.lexer.specs.declared.Class.TheVariants.{Label}
use Rattle.lexer.specs.Reading.{is_between, in_class}
use Rattle.tokens.specs.declared.read.Tally.{Tally}
use Rattle.tokens.specs.Tallies.{tallied}
use Rattle.tokens.specs.Readers.{Back, StuckAt, NameEnds}
use Rattle.tokens.proofs.Places.{stands_at, at_end_lem, stuck_at, turns_byte, turns_returns}
use Rattle.tokens.proofs.Bytes.{Run, run_none, run_more, and_is}

-- ── Bytes of names ──
label_class : (b : ℕ) → in_class Label b ≡ is_name_byte b
unfolding is_name_byte
label_class b =
    subst₂ (λ x y. in_class Label b ≡ choose x true (choose y true (eqb b 45))) (and_is (leb 97 b) (leb b 122)) (and_is (leb 48 b) (leb b 57))
    (go (is_between 97 122 b) (is_between 48 57 b) (eqb b 45))
  where
    go : (x y z : Bool) → (z || (y || x)) ≡ choose x true (choose y true z)
    go true true true = refl
    go true true false = refl
    go true false true = refl
    go true false false = refl
    go false true true = refl
    go false true false = refl
    go false false true = refl
    go false false false = refl

not_letter : (b : ℕ) → ¬ Letter b → is_letter b ≡ false
not_letter b f = go (is_letter b) refl
  where
    go : (x : Bool) → is_letter b ≡ x → x ≡ false
    go true e = absurd (f ((letter_iff b).0 e))
    go false e = refl

-- ── Behind the first letter ──
abbrev pub TailRun : List ℕ → ℕ → ℕ → Type 0
TailRun s = Run s tail (λ m b v. b ∷ v) (λ m v. length v) (λ m b v. refl) 15

module _ (s : List ℕ) where
  pub tail_none : (at : ℕ) → TailRun s at at
  tail_none = run_none s tail (λ m b v. b ∷ v) (λ m v. length v) (λ m b v. refl) 15

  pub tail_more : {at i : ℕ} (b : ℕ) → TailRun s at i → i < length s → get_or s i 0 ≡ b → i - at ≢ 15 → in_class Label b ≡ true → TailRun s at (i + 1)
  unfolding move
  tail_more b r h e full ok =
      run_more s tail (λ m b v. b ∷ v) (λ m v. length v) (λ m b v. refl) 15 b r h e full (λ m st. rw (sym (label_class b) ∙ ok) refl)

  tail_ends : {at i : ℕ} (r : TailRun s at i) → i ≤ length s → Returns (tail r.more) [] [] i (drop i s) i (drop i s) → NameEnds s at i
  tail_ends {at} {i} r h c = record { value = r.spelt []; inside = h; long = let z = r.here in let y = r.long [] in omega arith; returns = turns_returns s r.turns c }

  pub tail_end : {at i : ℕ} → TailRun s at i → i ≡ length s → NameEnds s at i
  tail_end {at} {i} r e = tail_ends r (omega arith) (name_ends r.more i (drop i s) (subst Unnamed (sym (at_end_lem s e)) tt))

  pub tail_full : {at i : ℕ} → TailRun s at i → i ≤ length s → i - at ≡ 15 → NameEnds s at i
  tail_full {at} {i} r h e =
      let z : r.more ≡ 0 = (let x = r.here in let y = r.room in omega arith) in
      tail_ends r h (subst (λ m. Returns (tail m) [] [] i (drop i s) i (drop i s)) (sym z) (name_full i (drop i s)))

  pub tail_stops : {at i : ℕ} → TailRun s at i → i < length s → in_class Label (get_or s i 0) ≡ false → NameEnds s at i
  tail_stops {at} {i} r h e =
      tail_ends r (omega arith) (name_ends r.more i (drop i s) (subst Unnamed (sym (drop-cons s i 0 h)) (λ n. clash (sym (sym (label_class _) ∙ e) ∙ (nameByte_iff _).1 n))))

  -- ── A whole name ──
  pub name_back : {i j k : ℕ} {t : Tally} → i < length s → 97 ≤ get_or s i 0 → get_or s i 0 ≤ 122 → NameEnds s (i + 1) j → k ≤ i → Back s label i k t j k t
  unfolding move tallied
  name_back {i} {j} {k} {t} h low high e few = record {
    value = get_or s i 0 ∷ e.value;
    forth = let z = e.long in omega arith;
    inside = e.inside;
    long = let z = e.long in omega arith;
    shallow = tt;
    returns =
        turns_returns s (turns_byte s label (tail 15) (λ v. get_or s i 0 ∷ v) (stands_at s h refl) (λ st. rw ((letter_iff _).1 (low, high)) refl))
        (subst (λ m. Returns (tail 15) e.value [] m (drop m s) j (drop j s)) (add-one i) e.returns);
    steps = omega arith;
    few = let z = e.long in omega arith;
    kept = refl;
  }

  pub name_stuck : {i : ℕ} → i < length s → ¬ ((97 ≤ get_or s i 0) × (get_or s i 0 ≤ 122)) → StuckAt s i label i
  unfolding move
  name_stuck {i} h f = stuck_at s (stands_at s h refl) (λ st. rw (not_letter (get_or s i 0) f) refl)
