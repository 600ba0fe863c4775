-- Laws of sets of positions: the bits of `|`, `&`, of 2 ^ j; a word is its bits; the size is the number of ones.
use mathlib.Core.Path.{◌≡◌, refl, sym, ap, ap₂, ◌∙◌, subst}
use mathlib.Core.Bool.{Bool, true, false}
use Prim.Native.Nat.{ℕ, zero, suc, ◌+◌, ◌*◌, ◌/◌, ◌%◌, ◌^◌, ◌≤◌, ◌<◌, zero-le, suc-le-suc}
use native.Mathlib.Nat.{not-suc-le-zero, le_of_suc-le-suc, div-one, one-mul, add_assoc, mul-mod_left, pow-suc, mul-div_cancel}
use native.Mathlib.Numerals.{add-one, one-add}
use native.Mathlib.Omega.{arith}
use lib.Dec.{eqb, eqb-zero-suc, eqb-suc-zero, eqb-suc-suc, lit<}
use lib.Pow.{shr-shr, shl_exact, shr_lt}
use lib.Bits.{bit_and, bit_or, or_shr, or_mod, and_shr, and_mod}
use lib.Count.{ones, ones_step}
use Rattle.bits.specs.Sets.{bit, or, and, one, size}

or2 : (x y : ℕ) → x < 2 → y < 2 → eqb (bit_or x y) 1 ≡ or (eqb x 1) (eqb y 1)
or2 zero y p q = refl
or2 (suc zero) zero p q = refl
or2 (suc zero) (suc zero) p q = refl
or2 (suc zero) (suc (suc y)) p q = absurd (not-suc-le-zero (le_of_suc-le-suc (le_of_suc-le-suc q)))
or2 (suc (suc x)) y p q = absurd (not-suc-le-zero (le_of_suc-le-suc (le_of_suc-le-suc p)))

and2 : (x y : ℕ) → x < 2 → y < 2 → eqb (bit_and x y) 1 ≡ and (eqb x 1) (eqb y 1)
and2 zero y p q = refl
and2 (suc zero) zero p q = refl
and2 (suc zero) (suc zero) p q = refl
and2 (suc zero) (suc (suc y)) p q = absurd (not-suc-le-zero (le_of_suc-le-suc (le_of_suc-le-suc q)))
and2 (suc (suc x)) y p q = absurd (not-suc-le-zero (le_of_suc-le-suc (le_of_suc-le-suc p)))

pub bit_or_lem : (a b i : ℕ) → bit (bit_or a b) i ≡ or (bit a i) (bit b i)
unfolding bit
bit_or_lem a b i =
    ap (λ (x : ℕ). eqb (x % 2) 1) (or_shr a b i)
    ∙ ap (λ (x : ℕ). eqb x 1) (or_mod (a / 2 ^ i) (b / 2 ^ i) 1)
    ∙ or2 (a / 2 ^ i % 2) (b / 2 ^ i % 2) (omega arith) (omega arith)

pub bit_and_lem : (a b i : ℕ) → bit (bit_and a b) i ≡ and (bit a i) (bit b i)
unfolding bit
bit_and_lem a b i =
    ap (λ (x : ℕ). eqb (x % 2) 1) (and_shr a b i)
    ∙ ap (λ (x : ℕ). eqb x 1) (and_mod (a / 2 ^ i) (b / 2 ^ i) 1)
    ∙ and2 (a / 2 ^ i % 2) (b / 2 ^ i % 2) (omega arith) (omega arith)

-- the lowest bit, and the rest
pub bit_zero : (w : ℕ) → bit w 0 ≡ eqb (w % 2) 1
unfolding bit
bit_zero w = ap (λ (x : ℕ). eqb (x % 2) 1) (div-one w)

pub bit_suc : (w i : ℕ) → bit w (suc i) ≡ bit (w / 2) i
unfolding bit
bit_suc w i = sym (ap (λ (x : ℕ). eqb (x % 2) 1) (shr-shr w 1 i ∙ ap (λ (k : ℕ). w / 2 ^ k) (one-add i)))

pub bit_none : (i : ℕ) → bit 0 i ≡ false
bit_none zero = bit_zero 0
bit_none (suc i) = bit_suc 0 i ∙ bit_none i

pub bit_single : (j i : ℕ) → bit (2 ^ j) i ≡ eqb i j
bit_single zero zero = bit_zero 1
bit_single zero (suc i) = bit_suc 1 i ∙ bit_none i ∙ sym (eqb-suc-zero i)
bit_single (suc j) zero = bit_zero (2 ^ suc j) ∙ ap (λ (x : ℕ). eqb (x % 2) 1) (pow-suc 2 j) ∙ ap (λ (x : ℕ). eqb x 1) (mul-mod_left (2 ^ j) 2) ∙ sym (eqb-zero-suc j)
bit_single (suc j) (suc i) =
    bit_suc (2 ^ suc j) i ∙ ap (λ (x : ℕ). bit (x / 2) i) (pow-suc 2 j) ∙ ap (λ (x : ℕ). bit x i) (mul-div_cancel (2 ^ j) (lit< tt))
    ∙ bit_single j i ∙ sym (eqb-suc-suc i j)

-- what the code's `1 << j` is
pub shifted_one : (j : ℕ) → j < 16 → 1 * 2 ^ j % 65536 ≡ 2 ^ j
shifted_one j h = shl_exact 1 j 16 (lit< tt) (omega arith) ∙ one-mul (2 ^ j)

-- ── The size ──
one_digit : (x : ℕ) → x < 2 → one (eqb x 1) ≡ x
one_digit zero p = refl
one_digit (suc zero) p = refl
one_digit (suc (suc x)) p = absurd (not-suc-le-zero (le_of_suc-le-suc (le_of_suc-le-suc p)))

-- counted from the lowest position
pub size_low : (n w : ℕ) → size (suc n) w ≡ w % 2 + size n (w / 2)
unfolding size
size_low zero w = ap (λ (b : Bool). 0 + one b) (bit_zero w) ∙ ap (λ (x : ℕ). 0 + x) (one_digit (w % 2) (omega arith)) ∙ omega arith
size_low (suc n) w =
    ap₂ (λ (x y : ℕ). x + y) (size_low n w) (ap one (bit_suc w n)) ∙ add_assoc (w % 2) (size n (w / 2)) (one (bit (w / 2) n))

-- the number of ones of a word of n digits
pub ones_size : (n w : ℕ) → w < 2 ^ n → ones w ≡ size n w
unfolding size ones
ones_size zero w h = let e : w ≡ 0 = omega arith in ap ones e
ones_size (suc n) w h =
    ones_step w ∙ ap (λ (x : ℕ). w % 2 + x) (ones_size n (w / 2) (shr_lt n 1 (subst (λ (k : ℕ). w < 2 ^ k) (sym (add-one n)) h))) ∙ sym (size_low n w)

-- ── A word is its bits ──
pub ext : (n a b : ℕ) → a < 2 ^ n → b < 2 ^ n → ((i : ℕ) → i < n → bit a i ≡ bit b i) → a ≡ b
ext zero a b ha hb h = omega arith
ext (suc n) a b ha hb h =
    let low : a % 2 ≡ b % 2 = sym (one_digit (a % 2) (omega arith)) ∙ ap one (sym (bit_zero a) ∙ h 0 (suc-le-suc zero-le) ∙ bit_zero b) ∙ one_digit (b % 2) (omega arith) in
    let rest : a / 2 ≡ b / 2 =
    ext n (a / 2) (b / 2) (shr_lt n 1 (subst (λ (k : ℕ). a < 2 ^ k) (sym (add-one n)) ha)) (shr_lt n 1 (subst (λ (k : ℕ). b < 2 ^ k) (sym (add-one n)) hb))
    (λ i p. sym (bit_suc a i) ∙ h (suc i) (suc-le-suc p) ∙ bit_suc b i) in
    omega arith

pub or_comm : (a b : Bool) → or a b ≡ or b a
or_comm true true = refl
or_comm true false = refl
or_comm false true = refl
or_comm false false = refl

-- ── The size, bit by bit: over the number of positions ──
one_or_and : (a b : Bool) → one (or a b) + one (and a b) ≡ one a + one b
one_or_and true true = refl
one_or_and true false = refl
one_or_and false true = refl
one_or_and false false = refl

pub size_or_and : (n a b : ℕ) → size n (bit_or a b) + size n (bit_and a b) ≡ size n a + size n b
unfolding size
size_or_and zero a b = refl
size_or_and (suc n) a b =
    let ih = size_or_and n a b in
    let o : one (bit (bit_or a b) n) ≡ one (or (bit a n) (bit b n)) = ap one (bit_or_lem a b n) in
    let d : one (bit (bit_and a b) n) ≡ one (and (bit a n) (bit b n)) = ap one (bit_and_lem a b n) in
    let s = one_or_and (bit a n) (bit b n) in
    omega arith

-- sets with the same members below n have the same size
pub size_same : (n a b : ℕ) → ((i : ℕ) → i < n → bit a i ≡ bit b i) → size n a ≡ size n b
unfolding size
size_same zero a b h = refl
size_same (suc n) a b h = ap₂ (λ (x y : ℕ). x + y) (size_same n a b (λ i p. h i (omega arith))) (ap one (h n (omega arith)))

pub one_le : (a b : Bool) → (a ≡ true → b ≡ true) → one a ≤ one b
one_le true b h = let e : one b ≡ 1 = ap one (h refl) in omega arith
one_le false b h = zero-le

pub size_mono : (n a b : ℕ) → ((i : ℕ) → i < n → bit a i ≡ true → bit b i ≡ true) → size n a ≤ size n b
unfolding size
size_mono zero a b h = zero-le
size_mono (suc n) a b h =
    let ih = size_mono n a b (λ i p. h i (omega arith)) in
    let o = one_le (bit a n) (bit b n) (h n (omega arith)) in
    omega arith

pub size_le : (n w : ℕ) → size n w ≤ n
unfolding size
size_le zero w = zero-le
size_le (suc n) w = let ih = size_le n w in let o : one (bit w n) ≤ 1 = one_le (bit w n) true (λ e. refl) in omega arith
