-- What one byte more makes of a scan, and what is left of it where no byte follows.
use Prim.Native.Nat.{ℕ, zero-le, suc, ◌+◌, ◌-◌, ◌*◌, ◌^◌, ◌≤◌, ◌<◌}
use mathlib.Core.Path.{◌≡◌, refl, sym, ap, ◌∙◌, subst}
use mathlib.Core.Bool.{Bool, true, false}
use mathlib.Core.Logic.{◌⊎◌, inl, inr}
use mathlib.Core.Option.{none, some}
use mathlib.Core.List.{List, [], ◌∷◌, ◌++◌, append-nil}
use lib.ListN.{length, get_or, take, drop}
use lib.Seq.{slice, slice_empty, slice-cons, get_or-take, get_or-drop}
use lib.Dec.{lit<, ltb, leb, eqb}
use native.Mathlib.Omega.{arith}
use native.Mathlib.Nat.{pow-le-pow_right, pow-succ', mul_assoc, mul-lt-mul_of_pos_right}
use native.Mathlib.Numerals.{add-one}
use borrow.Author.Tests.{ltb-true, leb-true, leb-false, lt-leb, lt-ltb, le-ltb, eq-eqb, ne_eqb}
use Rattle.std.proofs.lemmas.Nat.{pow-add}
use Rattle.limits.specs.Limits.{numeral_digits, numeral_decimals}
use Rattle.xpath.specs.Booleans.{both}
use Rattle.lists.specs.Text.{Digit}
use Rattle.xpath.specs.Reading.{given, is_digit, decimals_from, whole_from, with_sign, amount_of}
use Rattle.std.specs.Prelude.{Some, None}
use Rattle.std.specs.Prelude.{Option as Possibly}
use Rattle.numerals.specs.declared.scan.Scan.{Scan}
use Rattle.numerals.specs.declared.scan.Part.{Part}
use Rattle.numerals.specs.declared.scan.Part.TheVariants.{Whole, Decimals}
use Rattle.numerals.specs.Keys.{bias, no_key, key_of}
use Rattle.numerals.specs.Fits.{FitsIn}
use Rattle.numerals.specs.Scans.{resumed, resume, resume_if, digit_more, Further}

-- ── Digits ──
pub both_true : (x y : Bool) → both x y ≡ true → (x ≡ true) × (y ≡ true)
both_true true y e = (refl, e)
both_true false y e = let z : ◌≡◌ {A = ℕ} 0 1 = cc in absurd (omega arith)

both_false : (x : Bool) → both x false ≡ false
both_false true = refl
both_false false = refl

pub digit_is : (b : ℕ) → is_digit b ≡ true → Digit b
digit_is b e =
    let (l, h) = both_true (ltb 47 b) (ltb b 58) e in
    let i = ltb-true 47 b l in let j = ltb-true b 58 h in
    (omega arith, omega arith)

pub digit_low : (b : ℕ) → b < 48 → leb 48 b ≡ is_digit b
digit_low b h = rw (lt-leb 48 b)

pub digit_high : (b : ℕ) → 48 ≤ b → leb b 57 ≡ is_digit b
digit_high b h = rw (lt-ltb 47 b (omega arith)) (go (leb b 57) refl)
  where
    go : (t : Bool) → leb b 57 ≡ t → leb b 57 ≡ ltb b 58
    go true e = let l = leb-true b 57 e in e ∙ sym (lt-ltb b 58 (omega arith))
    go false e = let l = leb-false b 57 e in e ∙ sym (le-ltb b 58 (omega arith))

-- with one digit more, a number has one digit more
pub ten_more : (k m n d : ℕ) → m ≡ suc k → n < 10 ^ k → d < 10 → n * 10 + d < 10 ^ m
ten_more k m n d e h g = rw e (omega arith)

pub number_below : (j k n : ℕ) → n < 10 ^ k → k ≤ j → n < 10 ^ j
number_below j k n h g = omega (arith, pow-le-pow_right {n = 10} (lit< tt) g)

pub number_small : (k n : ℕ) → n < 10 ^ k → k ≤ numeral_digits + numeral_decimals → n < bias
number_small = number_below (numeral_digits + numeral_decimals)

pub number_whole : (k n : ℕ) → n < 10 ^ k → k ≤ numeral_digits → n < 10 ^ numeral_digits
number_whole = number_below numeral_digits

-- ── One byte more ──
-- what a scan is when it has taken the byte
abbrev pub Steps : Part → Scan → ℕ → Possibly Scan → Type 0
Steps p c b r = (bs : List ℕ) → resume_if r bs ≡ resumed p c (b ∷ bs)

-- what a scan says of itself, in the part that it is in
pub part_fits : (c : Scan) {p : Part} → c.part ≡ p → FitsIn p c.count c.number
part_fits c e = subst (λ p. FitsIn p c.count c.number) e c.fits

module _ (c : Scan) (b : ℕ) where
  pub decimals_fit : FitsIn Decimals c.count c.number → is_digit b ≡ true → c.count < numeral_decimals → FitsIn Decimals (suc c.count) (digit_more c b)
  decimals_fit f d h =
      let i = digit_is b d in
      (omega arith, ten_more (numeral_digits + c.count) (numeral_digits + suc c.count) c.number (b - 48) (omega arith) f.1 (omega arith))

  pub decimals_more : {r : Scan} → Further Decimals c b r → is_digit b ≡ true → c.count < numeral_decimals → Steps Decimals c b (Some r)
  unfolding decimals_from
  decimals_more {r} f d h = let l = lt-ltb c.count numeral_decimals h in λ bs. ap (λ p. resumed p r bs) f.part ∙ rw (f.minus, f.count, f.number, decimals_from, d, l)

  -- no digit, or one too many
  pub decimals_lost : (is_digit b ≡ false) ⊎ (numeral_decimals ≤ c.count) → Steps Decimals c b None
  unfolding decimals_from
  decimals_lost w = let k = go w in λ bs. rw (decimals_from, k)
    where
      go : (is_digit b ≡ false) ⊎ (numeral_decimals ≤ c.count) → both (is_digit b) (ltb c.count numeral_decimals) ≡ false
      go (inl d) = ap (λ x. both x (ltb c.count numeral_decimals)) d
      go (inr h) = ap (both (is_digit b)) (le-ltb c.count numeral_decimals h) ∙ both_false (is_digit b)

  pub whole_fits : FitsIn Whole c.count c.number → is_digit b ≡ true → c.count < numeral_digits → FitsIn Whole (suc c.count) (digit_more c b)
  whole_fits f d h = let i = digit_is b d in (omega arith, ten_more c.count (suc c.count) c.number (b - 48) refl f.1 (omega arith))

  pub whole_more : {r : Scan} → Further Whole c b r → is_digit b ≡ true → c.count < numeral_digits → Steps Whole c b (Some r)
  unfolding whole_from
  whole_more {r} f d h = let l = lt-ltb c.count numeral_digits h in λ bs. ap (λ p. resumed p r bs) f.part ∙ rw (f.minus, f.count, f.number, whole_from, d, l)

  -- one digit too many
  pub whole_full : is_digit b ≡ true → numeral_digits ≤ c.count → Steps Whole c b None
  unfolding whole_from
  whole_full d h = let k = le-ltb c.count numeral_digits h in λ bs. rw (whole_from, d, k)

  pub whole_point : is_digit b ≡ false → b ≡ 46 → 0 < c.count → (bs : List ℕ) → with_sign c.minus (decimals_from 0 c.number bs) ≡ resumed Whole c (b ∷ bs)
  unfolding whole_from
  whole_point d e h = let l = lt-ltb 0 c.count h in let i = eq-eqb b 46 e in λ bs. rw (whole_from, d, i, l)

  -- no digit and no point, or a point without a digit before it
  pub whole_lost : is_digit b ≡ false → ¬ (b ≡ 46) ⊎ (c.count ≡ 0) → Steps Whole c b None
  unfolding whole_from
  whole_lost d w = let k = go w in λ bs. rw (whole_from, d, k)
    where
      go : ¬ (b ≡ 46) ⊎ (c.count ≡ 0) → both (eqb b 46) (ltb 0 c.count) ≡ false
      go (inl n) = ap (λ x. both x (ltb 0 c.count)) (ne_eqb b 46 n)
      go (inr e) = ap (both (eqb b 46)) (le-ltb 0 c.count (omega arith)) ∙ both_false (eqb b 46)

-- ── The first byte ──
pub start_minus : (b : ℕ) → b ≡ 45 → (bs : List ℕ) → with_sign (eqb b 45) (whole_from 0 0 bs) ≡ amount_of (b ∷ bs)
unfolding amount_of
start_minus b e bs = let t = eq-eqb b 45 e in rw (amount_of, t)

pub start_plain : (b : ℕ) → ¬ (b ≡ 45) → (bs : List ℕ) → with_sign (eqb b 45) (whole_from 0 0 (b ∷ bs)) ≡ amount_of (b ∷ bs)
unfolding amount_of
start_plain b n bs = let t = ne_eqb b 45 n in rw (amount_of, t)

-- ── Many bytes ──
module _ (s : List ℕ) (from to : ℕ) (c : Scan) where
  -- what is made of the bytes from `from` on
  abbrev pub Scanned : Possibly Scan → Type 0
  Scanned r = (bs : List ℕ) → resume_if r bs ≡ resume c (slice from to s ++ bs)

  -- at an offset, the bytes before it are in the scan
  abbrev pub Scanning : ℕ → Scan → Type 0
  Scanning i r = (bs : List ℕ) → resume r (slice i to s ++ bs) ≡ resume c (slice from to s ++ bs)

  pub scanning_none : Scanning from c
  scanning_none bs = refl

  -- what is left of it, or that nothing is
  pub scanning_all : (i : ℕ) (r : Possibly Scan) → i ≡ to → ((bs : List ℕ) → resume_if r (slice i to s ++ bs) ≡ resume c (slice from to s ++ bs)) → Scanned r
  scanning_all i r e g bs = ap (λ (x : List ℕ). resume_if r (x ++ bs)) (sym (slice_empty to s) ∙ ap (λ j. slice j to s) (sym e)) ∙ g bs

  -- one byte more
  pub scanning_more : (i : ℕ) (r : Scan) (r' : Possibly Scan) → i < to → to ≤ length s → Scanning i r → Steps r.part r (get_or s i 0) r'
      → (bs : List ℕ) → resume_if r' (slice (i + 1) to s ++ bs) ≡ resume c (slice from to s ++ bs)
  scanning_more i r r' h l g p bs = rw add-one (p (slice (suc i) to s ++ bs) ∙ ap (λ (x : List ℕ). resume r (x ++ bs)) (sym (slice-cons i to s 0 h l)) ∙ g bs)

  -- what has failed has failed with all bytes to come
  pub scanning_lost : (i : ℕ) (r : Possibly Scan) → ((bs : List ℕ) → resume_if r bs ≡ none) → ((bs : List ℕ) → resume_if r (slice i to s ++ bs) ≡ resume c (slice from to s ++ bs)) → Scanned r
  scanning_lost i r n g bs = n bs ∙ sym (n (slice i to s ++ bs)) ∙ g bs

  -- byte k of those that are read
  abbrev pub byte : ℕ → ℕ
  byte k = get_or (take (to - from) (drop from s)) k 0

  taken : (k : ℕ) (r : Scan) (q : Possibly Scan) → from + k < to → to ≤ length s → Scanning (from + k) r → Steps r.part r (byte k) q
      → (bs : List ℕ) → resume_if q (slice (from + (k + 1)) to s ++ bs) ≡ resume c (slice from to s ++ bs)
  taken k r q h l g p bs =
      let e : from + (k + 1) ≡ suc (from + k) = omega arith in
      let same : byte k ≡ get_or s (from + k) 0 = get_or-take (to - from) (drop from s) k 0 (omega arith) ∙ get_or-drop from s k 0 in
      let rest = slice (suc (from + k)) to s ++ bs in
      rw e (p rest ∙ ap (λ y. resume r (y ∷ rest)) same ∙ ap (λ (x : List ℕ). resume r (x ++ bs)) (sym (slice-cons (from + k) to s 0 h l)) ∙ g bs)

  -- at byte k, as the loop has it
  pub scanning_on : (k : ℕ) (r r' : Scan) → from + k < to → to ≤ length s → Scanning (from + k) r → Steps r.part r (byte k) (Some r') → Scanning (from + (k + 1)) r'
  scanning_on k r r' = taken k r (Some r')

  -- a byte at which the scan fails: it has failed with all bytes to come
  pub scanning_ends : (k : ℕ) (r : Scan) → from + k < to → to ≤ length s → Scanning (from + k) r → Steps r.part r (byte k) None → Scanned None
  scanning_ends k r = taken k r None

-- a scan of all bytes of a string
pub scanned : (x : List ℕ) (c : Scan) (r : Possibly Scan) → ((bs : List ℕ) → resume c bs ≡ amount_of bs) → ((bs : List ℕ) → resume_if r bs ≡ resume c (x ++ bs)) → resume_if r [] ≡ amount_of x
scanned x c r f g = g [] ∙ f (x ++ []) ∙ ap amount_of (append-nil x)

-- ── The end ──
-- a zero for each decimal that is not there
pub padded_more : (n k : ℕ) → k < numeral_decimals → n * 10 * 10 ^ (numeral_decimals - (k + 1)) ≡ n * 10 ^ (numeral_decimals - k)
padded_more n k h =
    let e : numeral_decimals - k ≡ suc (numeral_decimals - (k + 1)) = omega arith in
    rw (e, pow-succ') (mul_assoc n 10 (10 ^ (numeral_decimals - (k + 1))))

pub padded_all : (n k : ℕ) → k ≡ numeral_decimals → n ≡ n * 10 ^ (numeral_decimals - k)
padded_all n k e = rw e (omega arith)

pub padded_small : (n k : ℕ) → k ≤ numeral_decimals → n < 10 ^ (numeral_digits + k) → n * 10 ^ (numeral_decimals - k) < bias
padded_small n k h l =
    let e : numeral_digits + numeral_decimals ≡ numeral_digits + k + (numeral_decimals - k) = omega arith in
    subst (λ m. n * 10 ^ (numeral_decimals - k) < 10 ^ m) (sym e)
    (rw (pow-add 10 (numeral_digits + k) (numeral_decimals - k)) (mul-lt-mul_of_pos_right l (let z : 10 ^ 0 ≤ 10 ^ (numeral_decimals - k) = pow-le-pow_right {n = 10} (lit< tt) zero-le in omega arith)))

module _ (m : Bool) (k n : ℕ) where
  pub key_none : k ≡ 0 → no_key ≡ key_of (with_sign m (given (ltb 0 k) (some n)))
  key_none e = rw (le-ltb 0 k (omega arith))

  pub key_minus : ¬ (k ≡ 0) → m ≡ true → bias - n ≡ key_of (with_sign m (given (ltb 0 k) (some n)))
  key_minus h e = rw (lt-ltb 0 k (omega arith), e)

  pub key_plus : ¬ (k ≡ 0) → m ≡ false → bias + n ≡ key_of (with_sign m (given (ltb 0 k) (some n)))
  key_plus h e = rw (lt-ltb 0 k (omega arith), e) (omega arith)
