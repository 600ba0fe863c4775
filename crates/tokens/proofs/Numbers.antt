-- Numbers: what `tokens::goes_on`, `figures` and `number` conclude is what the machine does with the number of a count.
use Rattle.std.specs.Prelude.{Result, Ok, Err}
use Prim.Native.Nat.{ℕ, suc, ◌+◌, ◌-◌, ◌*◌, ◌≤◌, ◌<◌}
use native.Mathlib.Omega.{arith}
use native.Mathlib.Numerals.{add-one}
use mathlib.Core.Path.{◌≡◌, refl, sym, ap, ◌∙◌, subst}
use mathlib.Core.Logic.{◌⊎◌, inl, inr, ◌≢◌}
use mathlib.Core.Bool.{Bool, true, false}
use mathlib.Core.List.{List, [], ◌∷◌, ◌++◌, map}
use lib.ListN.{length, get_or, drop, length-append, length-drop}
use lib.Seq.{drop_at, drop-cons, drop-drop}
use lib.Dec.{leb}
use borrow.Author.Tests.{le-leb}
use Rattle.limits.specs.Limits.{rule_count}
use Rattle.lists.specs.Text.{Digit}
use Rattle.lists.specs.Numerals.{value_from, reading}
use Rattle.lists.proofs.Numerals.{reading_first, decimal_reading}
use Rattle.rule_spec.specs.Bytes.{is_digit}
use Rattle.rule_spec.specs.Machine.{number, goes_on, move, rest, stopped, close}
use Rattle.rule_spec.specs.Readers.{Returns}
use Rattle.rule_spec.proofs.Bytes.{digit_iff}
use Rattle.rule_spec.proofs.Comes.{comes_as}
use Rattle.rule_spec.proofs.Figures.{Figures, Number, number_iff}
use Rattle.rule_spec.proofs.Readers.{Complete, number_returns}
use Rattle.lexer.specs.declared.Class.TheVariants as class
use Rattle.lexer.specs.Reading.{in_class}
use Rattle.tokens.specs.declared.Digits.{Digits}
use Rattle.tokens.specs.declared.read.Tally.{Tally}
use Rattle.tokens.specs.declared.read.Behind.{Behind}
use Rattle.tokens.specs.declared.read.Refusal.{Refusal}
use Rattle.tokens.specs.Tallies.{tallied}
use Rattle.tokens.specs.Readers.{Back, StuckAt, Reading, NumberRead}
use Rattle.tokens.specs.Numbers.{told, figured, numbered}
use Rattle.tokens.proofs.Places.{stands_cons, at_end_lem, stuck_end, stuck_at}
use Rattle.tokens.proofs.Bytes.{and_is}

-- ── One digit more ──
digit_class : (b : ℕ) → in_class class.Digit b ≡ is_digit b
unfolding is_digit
digit_class b = and_is (leb 48 b) (leb b 57)

pub in_digits : (b : ℕ) → in_class class.Digit b ≡ true → Digit b
in_digits b e = (digit_iff b).0 (sym (digit_class b) ∙ e)

pub no_digit_more : (n b : ℕ) → in_class class.Digit b ≡ false → false ≡ goes_on n b
no_digit_more n b e = rw (sym (digit_class b) ∙ e) refl

module _ (n b : ℕ) (e : in_class class.Digit b ≡ true) where
  pub none_behind_zero : n ≡ 0 → false ≡ goes_on n b
  none_behind_zero z = rw (sym (digit_class b) ∙ e, z) refl

  pub within_limit : n ≢ 0 → {m : ℕ} → m ≡ n * 10 + (b - 48) → leb m rule_count ≡ goes_on n b
  within_limit z d = rw (sym (digit_class b) ∙ e, le-leb 1 n (omega arith), d) refl

-- ── Digit by digit ──
module _ (s : List ℕ) where
  pub none_at_end : {i : ℕ} → i ≡ length s → told 0 i ≡ numbered i (drop i s)
  unfolding numbered
  none_at_end e = rw (at_end_lem s e) refl

  pub ended : {n i : ℕ} → i ≡ length s → figured n i (drop i s) ≡ told n (length s)
  unfolding figured
  ended {n} e = rw (at_end_lem s e) (ap (told n) e)

  module _ {i : ℕ} (h : i < length s) where
    pub none_here : in_class class.Digit (get_or s i 0) ≡ false → told 0 i ≡ numbered i (drop i s)
    unfolding numbered
    none_here e = rw (drop-cons s i 0 h, sym (digit_class (get_or s i 0)) ∙ e) refl

    pub first_digit : {n : ℕ} → in_class class.Digit (get_or s i 0) ≡ true → n ≡ 0 * 10 + (get_or s i 0 - 48) → numbered i (drop i s) ≡ figured n (i + 1) (drop (i + 1) s)
    unfolding numbered
    first_digit {n} e d =
        let q : n ≡ get_or s i 0 - 48 = omega arith in
        rw (drop-cons s i 0 h, sym (digit_class (get_or s i 0)) ∙ e, q, add-one i) refl

    pub next_digit : (m : ℕ) {n : ℕ} → goes_on m (get_or s i 0) ≡ true → n ≡ m * 10 + (get_or s i 0 - 48) → figured m i (drop i s) ≡ figured n (i + 1) (drop (i + 1) s)
    unfolding figured
    next_digit m e d = rw (drop-cons s i 0 h, e, d, add-one i) refl

    pub none_next : (n : ℕ) → goes_on n (get_or s i 0) ≡ false → figured n i (drop i s) ≡ told n i
    unfolding figured
    none_next n e = rw (drop-cons s i 0 h, e) refl

-- ── All digits at once ──
abbrev onward : ℕ → List ℕ → ℕ
onward n ds = value_from 10 n (map (λ b. b - 48) ds)

figured_is : (ds : List ℕ) (n o : ℕ) (r : List ℕ) → Figures n ds → Complete (onward n ds) r → figured n o (ds ++ r) ≡ told (onward n ds) (o + length ds)
unfolding figured
figured_is [] n o r l h = go r h ∙ ap (told n) (omega arith)
  where
    go : (r : List ℕ) → Complete n r → figured n o r ≡ told n o
    go [] h = refl
    go (b ∷ r) h = rw h refl
figured_is (b ∷ ds) n o r l h =
    let e : suc o + length ds ≡ o + suc (length ds) = omega arith in
    rw l.0 (figured_is ds (n * 10 + (b - 48)) (suc o) r l.1 h ∙ ap (told (onward n (b ∷ ds))) e)

pub numbered_is : (ds : List ℕ) (o : ℕ) (r : List ℕ) → Number ds → Complete (reading ds) r → numbered o (ds ++ r) ≡ told (reading ds) (o + length ds)
unfolding numbered
numbered_is [] o r l h = absurd l
numbered_is (b ∷ ds) o r l h =
    let e : suc o + length ds ≡ o + suc (length ds) = omega arith in
    rw (l.0, reading_first b ds) (figured_is ds (b - 48) (suc o) r l.1 (rw (reading_first b ds) at h) ∙ ap (told (onward (b - 48) ds)) e)

-- w begins with digits that go on with n, behind which none does
abbrev Split : ℕ → List ℕ → Type 0
Split n w = (ds r : List ℕ) × (w ≡ ds ++ r) × Figures n ds × Complete (onward n ds) r

split : (n : ℕ) (w : List ℕ) → Split n w
split n [] = ([], [], refl, tt, tt)
split n (b ∷ w) = go (goes_on n b) refl (split (n * 10 + (b - 48)) w)
  where
    go : (t : Bool) → goes_on n b ≡ t → Split (n * 10 + (b - 48)) w → Split n (b ∷ w)
    go true e (ds, r, d, l, h) = (b ∷ ds, r, ap (λ w. b ∷ w) d, (e, l), h)
    go false e d = ([], b ∷ w, refl, tt, e)

-- ── The machine takes them as its number ──
module _ (s : List ℕ) where
  -- from i on there stands no number, or one
  abbrev Found : ℕ → Type 0
  Found i = ((numbered i (drop i s) ≡ told 0 i) × StuckAt s i number i) ⊎ ((ds r : List ℕ) × (drop i s ≡ ds ++ r) × Number ds × Complete (reading ds) r)

  found : (i : ℕ) → Found i
  unfolding numbered move rest
  found i = go (drop i s) refl
    where
      digit : (b : ℕ) (w : List ℕ) → drop i s ≡ b ∷ w → (t : Bool) → is_digit b ≡ t → Found i
      digit b w d false e = inl (rw (d, e) refl, stuck_at s (stands_cons s d) (λ st. rw e refl))
      digit b w d true e =
          let (ds, r, q, l, h) = split (b - 48) w in
          inr (b ∷ ds, r, d ∙ ap (λ w. b ∷ w) q, (e, l), rw (reading_first b ds) h)

      go : (w : List ℕ) → drop i s ≡ w → Found i
      go [] d = inl (rw d refl, stuck_end s d (λ st. refl))
      go (b ∷ w) d = digit b w d (is_digit b) refl

  some_digit : (ds : List ℕ) → Number ds → 0 < length ds
  some_digit [] l = absurd l
  some_digit (b ∷ ds) l = omega arith

  module _ {i : ℕ} (h : i ≤ length s) {f : Digits} (e : f ≡ numbered i (drop i s)) where
    pub number_stuck : f.next ≡ i → StuckAt s i number i
    number_stuck stays = go (found i)
      where
        go : Found i → StuckAt s i number i
        go (inl (z, stuck)) = stuck
        go (inr (ds, r, d, l, c)) =
            let p = some_digit ds l in
            let n : f.next ≡ i + length ds = ap (λ f. f.next) (e ∙ ap (numbered i) d ∙ numbered_is ds i r l c) in
            absurd (omega arith)

    pub number_back : (k : ℕ) (t : Tally) → f.next ≢ i → k ≤ i → NumberRead s i k t (Ok (record { next = f.next; steps = k; tally = t }))
    unfolding tallied
    number_back k t moves few = go (found i)
      where
        go : Found i → NumberRead s i k t (Ok (record { next = f.next; steps = k; tally = t }))
        go (inl (z, stuck)) = absurd (moves (ap (λ f. f.next) (e ∙ z)))
        go (inr (ds, r, d, l, c)) =
            let p = some_digit ds l in
            let n : i + length ds ≡ f.next = ap (λ f. f.next) (sym (e ∙ ap (numbered i) d ∙ numbered_is ds i r l c)) in
            let a = length-drop i s in let b = ap length d in let a₂ = length-append ds r in
            let rest : r ≡ drop (i + length ds) s = sym (sym (drop-drop (length ds) i s) ∙ ap (drop (length ds)) d ∙ drop_at ds r (length ds) refl) in
            let whole : Back s number i k t f.next k t = record {
              value = ds;
              forth = omega arith;
              inside = omega arith;
              long = sym n;
              shallow = tt;
              returns = subst (λ j. Returns number ds [] i (drop i s) j (drop j s)) n
                  (subst (λ w. Returns number ds [] i (drop i s) (i + length ds) w) rest (comes_as close stopped refl (sym d) refl (number_returns ds i r l c)));
              steps = omega arith;
              few = omega arith;
              kept = refl;
            } in
            (whole, decimal_reading ds ((number_iff ds).0 l).0)

  -- whatever its digits are
  pub number_reads : (i k : ℕ) (t : Tally) (r : Result Behind Refusal) → NumberRead s i k t r → Reading s number i k t r
  number_reads i k t (Ok b) h = h.0
  number_reads i k t (Err e) h = h
