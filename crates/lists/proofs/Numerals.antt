-- Numerals: the digits of a number, read back, and which lists are the digits of a number.
use Prim.Native.Nat.{ℕ, zero, suc, ◌+◌, ◌-◌, ◌*◌, ◌/◌, ◌%◌, ◌^◌, ◌≤◌, ◌<◌}
use mathlib.Core.Path.{◌≡◌, refl, sym, ap, ap₂, ◌∙◌, subst}
use mathlib.Core.Logic.{◌⊎◌, inl, inr}
use mathlib.Core.List.{List, [], ◌∷◌, ◌++◌, map, append_assoc, append-nil}
use lib.ListN.{length, length-append, length-map}
use lib.Arith.{digits_div, digits_mod, digits_lt}
use native.Mathlib.Omega.{arith}
use native.Mathlib.Decide.{dec_lt, dec_le}
use native.Mathlib.Nat.{div-add-mod', mod-lt, div-lt_self, le-div_iff_mul-le, mul-le-mul_right, mul-le-mul_left, pow-suc, pow-zero, pow-le-pow_right}
use borrow.Author.Tests.{lt-ltb, le-ltb}
use Rattle.lists.specs.Lists.{All}
use Rattle.lists.specs.Text.{Digit, digits_by, digits, decimal, binary_digits}
use Rattle.lists.specs.Numerals.{value_from, value, reading}
use Rattle.lists.proofs.Lists.{all_append, all_map, all_imp, map_back}

pub value_append : (base n : ℕ) (ds es : List ℕ) → value_from base n (ds ++ es) ≡ value_from base (value_from base n ds) es
value_append base n [] es = refl
value_append base n (d ∷ ds) es = value_append base (n * base + d) ds es

-- more digits make no smaller number
pub value_grows : (base n : ℕ) (ds : List ℕ) → 0 < base → n ≤ value_from base n ds
value_grows base n [] p = omega arith
value_grows base n (d ∷ ds) p = let h = value_grows base (n * base + d) ds p in omega (arith, mul-le-mul_left n p)

-- so many digits more make a number with so many digits more at most
pub value_below : (base k n : ℕ) (ds : List ℕ) → n < base ^ k → All (λ d. d < base) ds → value_from base n ds < base ^ (k + length ds)
value_below base k n [] h a = subst (λ (j : ℕ). n < base ^ j) (omega arith) h
value_below base k n (d ∷ ds) h a =
    subst (λ (j : ℕ). value_from base (n * base + d) ds < base ^ j) (omega arith)
    (value_below base (suc k) (n * base + d) ds (let l = a.0 in let e = pow-suc base k in let m = mul-le-mul_right base h in omega arith) a.1)

-- digits below the base, at least one, and the first not 0 unless it is alone
abbrev pub Numeral : ℕ → List ℕ → Type 0
Numeral base [] = ⊥
Numeral base (d ∷ ds) = All (λ c. c < base) (d ∷ ds) × ((0 < d) ⊎ (ds ≡ []))

-- a digit that is not 0 comes first
abbrev pub Leads : List ℕ → Type 0
Leads ds = (d : ℕ) × (es : List ℕ) × (ds ≡ d ∷ es) × (0 < d)

-- as many digits as the size of n asks for
abbrev pub Long : ℕ → ℕ → List ℕ → Type 0
Long base n ds = (k : ℕ) × (length ds ≡ suc k) × (0 < n → base ^ k ≤ n) × (n < base ^ suc k)

module _ (base : ℕ) (two : 2 ≤ base) where
  -- the two steps of digits_by
  one_digit : (f d : ℕ) → d < base → digits_by base f d ≡ d ∷ []
  unfolding digits_by
  one_digit zero d h = refl
  one_digit (suc f) d h = rw (lt-ltb d base h, digits_by)

  more_digits : (f q d : ℕ) → 0 < q → d < base → digits_by base (suc f) (q * base + d) ≡ digits_by base f q ++ d ∷ []
  unfolding digits_by
  more_digits f q d p h =
      let l : base ≤ q * base + d = omega (arith, mul-le-mul_right base p) in
      rw (le-ltb (q * base + d) base l, digits_by) (ap₂ (λ m c. digits_by base f m ++ c ∷ []) (digits_div q h) (digits_mod q h))

  -- induction on the digits of a number
  module _ (P : ℕ → List ℕ → Type 0) (one : (d : ℕ) → d < base → P d (d ∷ []))
      (more : (q d : ℕ) (ds : List ℕ) → 0 < q → d < base → P q ds → P (q * base + d) (ds ++ d ∷ [])) where
    by_fuel : (f n : ℕ) → n ≤ f → P n (digits_by base f n)
    by_fuel zero n h = let l : n < base = omega arith in rw (one_digit 0 n l) (one n l)
    by_fuel (suc f) n h = go (dec_lt n base) (λ l. by_fuel f (n / base) l)
      where
        go : Dec (n < base) → (n / base ≤ f → P (n / base) (digits_by base f (n / base))) → P n (digits_by base (suc f) n)
        go (yes l) ih = rw (one_digit (suc f) n l) (one n l)
        go (no k) ih =
            let p : 0 < n / base = (le-div_iff_mul-le {k = base} {x = 1} {y = n} (omega arith)).1 (omega arith) in
            let l : n / base < n = div-lt_self (omega arith) two in
            let r : n % base < base = mod-lt n (omega arith) in
            subst (λ m. P m (digits_by base (suc f) m)) (div-add-mod' n base)
            (rw (more_digits f (n / base) (n % base) p r) (more (n / base) (n % base) (digits_by base f (n / base)) p r (ih (omega arith))))

    pub by_digits : (n : ℕ) → P n (digits base n)
    unfolding digits
    by_digits n = by_fuel n n (omega arith)

  -- any fuel that is enough gives the same digits
  fuel : (f n : ℕ) → n ≤ f → (g : ℕ) → n ≤ g → digits_by base g n ≡ digits_by base f n
  fuel f n h = by_fuel (λ n ds. (g : ℕ) → n ≤ g → digits_by base g n ≡ ds) (λ d l g k. one_digit g d l) more f n h
    where
      more : (q d : ℕ) (ds : List ℕ) → 0 < q → d < base → ((g : ℕ) → q ≤ g → digits_by base g q ≡ ds)
          → (g : ℕ) → q * base + d ≤ g → digits_by base g (q * base + d) ≡ ds ++ d ∷ []
      more q d ds p l ih zero k = absurd (omega (arith, mul-le-mul_right base p))
      more q d ds p l ih (suc g) k = more_digits g q d p l ∙ ap (λ es. es ++ d ∷ []) (ih g (omega (arith, mul-le-mul_left q two)))

  -- the two steps of digits
  pub digits_one : (d : ℕ) → d < base → digits base d ≡ d ∷ []
  unfolding digits
  digits_one d h = one_digit d d h

  pub digits_more : (q d : ℕ) → 0 < q → d < base → digits base (q * base + d) ≡ digits base q ++ d ∷ []
  unfolding digits
  digits_more q d p h =
      let n = q * base + d in
      let l : q ≤ n = omega (arith, mul-le-mul_left q two) in
      fuel (suc n) n (omega arith) n (omega arith) ∙ more_digits n q d p h ∙ ap (λ ds. ds ++ d ∷ []) (fuel q q (omega arith) n l)

  -- reading the digits gives the number back
  pub digits_value : (n : ℕ) → value base (digits base n) ≡ n
  digits_value n = by_digits (λ n ds. value base ds ≡ n) (λ d h. omega arith) more n
    where
      more : (q d : ℕ) (ds : List ℕ) → 0 < q → d < base → value base ds ≡ q → value base (ds ++ d ∷ []) ≡ q * base + d
      more q d ds p h ih = value_append base 0 ds (d ∷ []) ∙ ap (λ m. m * base + d) ih

  pub digits_injective : (m n : ℕ) → digits base m ≡ digits base n → m ≡ n
  digits_injective m n e = sym (digits_value m) ∙ ap (value base) e ∙ digits_value n

  -- no leading zero but in 0 itself
  pub digits_zero : digits base 0 ≡ 0 ∷ []
  digits_zero = digits_one 0 (omega arith)

  pub digits_first : (n : ℕ) → 0 < n → Leads (digits base n)
  digits_first n = by_digits (λ n ds. 0 < n → Leads ds) (λ d h p. (d, [], refl, p)) more n
    where
      more : (q d : ℕ) (ds : List ℕ) → 0 < q → d < base → (0 < q → Leads ds) → 0 < q * base + d → Leads (ds ++ d ∷ [])
      more q d ds p h ih r = let (c, es, e, k) = ih p in (c, es ++ d ∷ [], ap (λ fs. fs ++ d ∷ []) e, k)

  pub digits_bounded : (n : ℕ) → All (λ d. d < base) (digits base n)
  digits_bounded n =
      by_digits (λ n ds. All (λ d. d < base) ds) (λ d h. (h, tt)) (λ q d ds p h ih. (all_append (λ d. d < base) ds (d ∷ [])).1 (ih, (h, tt))) n

  pub digits_numeral : (n : ℕ) → Numeral base (digits base n)
  digits_numeral zero = rw digits_zero ((omega arith, tt), inr refl)
  digits_numeral (suc n) =
      let (d, ds, e, p) = digits_first (suc n) (omega arith) in
      let h = digits_bounded (suc n) in
      rw e (rw e at h, inl p)

  -- a run of digits after a number that is not 0 is appended to its digits
  digits_run : (n : ℕ) (ds : List ℕ) → 0 < n → All (λ d. d < base) ds → digits base (value_from base n ds) ≡ digits base n ++ ds
  digits_run n [] p h = sym (append-nil (digits base n))
  digits_run n (d ∷ ds) p (h, hs) =
      digits_run (n * base + d) ds (omega (arith, mul-le-mul_right base p)) hs
      ∙ ap (λ es. es ++ ds) (digits_more n d p h) ∙ append_assoc (digits base n) (d ∷ []) ds

  pub value_digits : (ds : List ℕ) → Numeral base ds → digits base (value base ds) ≡ ds
  value_digits [] h = absurd h
  value_digits (d ∷ ds) ((h, hs), inl p) =
      let e : 0 * base + d ≡ d = omega arith in
      rw e (digits_run d ds p hs ∙ ap (λ es. es ++ ds) (digits_one d h))
  value_digits (d ∷ ds) ((h, hs), inr e) =
      let i : 0 * base + d ≡ d = omega arith in
      rw (e, i) (digits_one d h)

  -- how long
  pub digits_length : (n : ℕ) → Long base n (digits base n)
  digits_length n = by_digits (Long base) one more n
    where
      one : (d : ℕ) → d < base → Long base d (d ∷ [])
      one d h = (0, refl, (λ p. rw pow-zero p), rw (pow-suc base 0, pow-zero) (omega arith))

      more : (q d : ℕ) (ds : List ℕ) → 0 < q → d < base → Long base q ds → Long base (q * base + d) (ds ++ d ∷ [])
      more q d ds p h (k, l, a, b) =
          let e : length ds + 1 ≡ suc (suc k) = omega arith in (
            suc k,
            length-append ds (d ∷ []) ∙ e,
            (λ r. rw (pow-suc base k) (omega (arith, mul-le-mul_right base (a p)))),
            rw (pow-suc base (suc k)) (digits_lt b h),
          )

  pub digits_below : (n : ℕ) → 0 < n → base ^ (length (digits base n) - 1) ≤ n
  digits_below n p =
      let (k, l, a, b) = digits_length n in
      let e : length (digits base n) - 1 ≡ k = omega arith in
      rw e (a p)

  pub digits_above : (n : ℕ) → n < base ^ length (digits base n)
  digits_above n = let (k, l, a, b) = digits_length n in rw l b

  pub digits_short : (n k : ℕ) → n < base ^ k → 0 < k → length (digits base n) ≤ k
  digits_short n k h p = go (dec_le (length (digits base n)) k) n refl
    where
      go : Dec (length (digits base n) ≤ k) → (m : ℕ) → n ≡ m → length (digits base n) ≤ k
      go (yes l) m e = l
      go (no f) zero e = rw (e, digits_zero) p
      go (no f) (suc m) e =
          let (j, l, a, b) = digits_length n in
          let r : base ^ k ≤ base ^ j = pow-le-pow_right (omega arith) (omega arith) in
          let q = a (omega arith) in
          absurd (omega arith)

-- ── Decimal ──
-- 01's decimal numbers: digits, the first not 0 unless it is alone
abbrev pub Decimal : List ℕ → Type 0
Decimal [] = ⊥
Decimal (b ∷ bs) = All Digit (b ∷ bs) × ((48 < b) ⊎ (bs ≡ []))

ten : 2 ≤ 10
ten = omega arith

-- a digit and its byte
abbrev spell : ℕ → ℕ
spell d = 48 + d

abbrev unspell : ℕ → ℕ
unspell b = b - 48

spell_all : (ds : List ℕ) → All (λ d. d < 10) ds → All Digit (map spell ds)
spell_all = all_map (λ d. d < 10) Digit spell (λ d h. omega arith)

unspell_all : (s : List ℕ) → All Digit s → All (λ d. d < 10) (map unspell s)
unspell_all = all_map Digit (λ d. d < 10) unspell (λ d h. omega arith)

spell_numeral : (ds : List ℕ) → Numeral 10 ds → Decimal (map spell ds)
spell_numeral [] h = absurd h
spell_numeral (d ∷ ds) (h, inl p) = (spell_all (d ∷ ds) h, inl (omega arith))
spell_numeral (d ∷ ds) (h, inr e) = (spell_all (d ∷ ds) h, inr (ap (map spell) e))

unspell_numeral : (s : List ℕ) → Decimal s → Numeral 10 (map unspell s)
unspell_numeral [] h = absurd h
unspell_numeral (b ∷ bs) (h, inl p) = (unspell_all (b ∷ bs) h, inl (omega arith))
unspell_numeral (b ∷ bs) (h, inr e) = (unspell_all (b ∷ bs) h, inr (ap (map unspell) e))

pub decimal_decimal : (n : ℕ) → Decimal (decimal n)
unfolding decimal
decimal_decimal n = spell_numeral (digits 10 n) (digits_numeral 10 ten n)

pub decimal_digits_lem : (n : ℕ) → All Digit (decimal n)
unfolding decimal
decimal_digits_lem n = spell_all (digits 10 n) (digits_bounded 10 ten n)

-- the first digit is the number that the others go on with
pub reading_first : (b : ℕ) (s : List ℕ) → reading (b ∷ s) ≡ value_from 10 (b - 48) (map unspell s)
reading_first b s = let e : 0 * 10 + (b - 48) ≡ b - 48 = omega arith in ap (λ n. value_from 10 n (map unspell s)) e

pub reading_below : (s : List ℕ) → All Digit s → reading s < 10 ^ length s
reading_below s h =
    subst (λ (j : ℕ). reading s < 10 ^ j) (length-map s unspell)
    (subst (λ (j : ℕ). reading s < 10 ^ j) (omega arith) (value_below 10 0 0 (map unspell s) (omega arith) (unspell_all s h)))

-- reading undoes decimal, and decimal undoes reading
pub reading_decimal : (n : ℕ) → reading (decimal n) ≡ n
unfolding decimal
reading_decimal n =
    let h = all_imp (λ d. d < 10) (λ d. 48 + d - 48 ≡ d) (λ d h. omega arith) (digits 10 n) (digits_bounded 10 ten n) in
    ap (value 10) (map_back spell unspell (digits 10 n) h) ∙ digits_value 10 ten n

pub decimal_reading : (s : List ℕ) → Decimal s → decimal (reading s) ≡ s
unfolding decimal
decimal_reading [] h = absurd h
decimal_reading (b ∷ bs) h =
    let s = b ∷ bs in
    let k = all_imp Digit (λ b. 48 + (b - 48) ≡ b) (λ b h. omega arith) s h.0 in
    ap (map spell) (value_digits 10 ten (map unspell s) (unspell_numeral s h)) ∙ map_back unspell spell s k

pub decimal_injective : (m n : ℕ) → decimal m ≡ decimal n → m ≡ n
decimal_injective m n e = sym (reading_decimal m) ∙ ap reading e ∙ reading_decimal n

pub decimal_short : (n k : ℕ) → n < 10 ^ k → 0 < k → length (decimal n) ≤ k
unfolding decimal
decimal_short n k h p = rw (length-map (digits 10 n) spell) (digits_short 10 ten n k h p)

-- ── Binary ──
pub binary_above : (n : ℕ) → n < 2 ^ binary_digits n
unfolding binary_digits
binary_above n = digits_above 2 (omega arith) n

pub binary_below : (n : ℕ) → 0 < n → 2 ^ (binary_digits n - 1) ≤ n
unfolding binary_digits
binary_below n p = digits_below 2 (omega arith) n p

pub binary_short : (n k : ℕ) → n < 2 ^ k → 0 < k → binary_digits n ≤ k
unfolding binary_digits
binary_short n k h p = digits_short 2 (omega arith) n k h p
