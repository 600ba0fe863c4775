-- Members of sets: a set that is not empty has one, those of one set that are none of another, and what sizes say of them.
use Prim.Native.Nat.{ℕ, zero, suc, ◌/◌, ◌%◌, ◌^◌, ◌<◌}
use mathlib.Core.Path.{◌≡◌, refl, sym, ap, ◌∙◌, subst}
use mathlib.Core.Logic.{◌≢◌, ◌⊎◌, inl, inr, ⊎_elim, ◌↔◌}
use mathlib.Core.Bool.{Bool, true, false, not, xor, false≢true}
use native.Mathlib.Nat.{not-suc-le-zero, le_of_suc-le-suc, eq-or-lt_of_le}
use native.Mathlib.Numerals.{add-one}
use native.Mathlib.Omega.{arith}
use lib.Bits.{bit_and, bit_xor, and_le_l, xor_shr, xor_mod}
use lib.Count.{count_trailing_zeros, under}
use lib.Dec.{eqb, ltb}
use lib.Pow.{shr_lt}
use borrow.Author.Tests.{eq-eqb, ne_eqb, ltb-true, lt-ltb}
use Rattle.bits.specs.Sets.{bit, or, and, is, one, size}
use Rattle.bits.proofs.SetLaws.{bit_and_lem, bit_zero, bit_suc, bit_none, size_mono, one_le}

-- ── Truth values ──
pub or_cases : (a b : Bool) → or a b ≡ true → (a ≡ true) ⊎ (b ≡ true)
or_cases true b e = inl refl
or_cases false b e = inr e

pub or_left : (a b : Bool) → a ≡ true → or a b ≡ true
or_left a b e = ap (λ x. or x b) e

pub or_right : (a b : Bool) → b ≡ true → or a b ≡ true
or_right true b e = refl
or_right false b e = e

pub and_both : (a b : Bool) → a ≡ true → b ≡ true → and a b ≡ true
and_both a b e f = ap (λ x. and x b) e ∙ f

pub and_parts : (a b : Bool) → and a b ≡ true → (a ≡ true) × (b ≡ true)
and_parts true b e = (refl, e)
and_parts false b e = absurd (false≢true e)

pub and_iff : (a b c : Bool) → c ≡ and a b → (c ≡ true) ↔ ((a ≡ true) × (b ≡ true))
and_iff a b c h = (λ e. and_parts a b (sym h ∙ e), λ (e, f). h ∙ and_both a b e f)

-- ── A member ──
pub lowest : (k n : ℕ) → 0 < n → n < 2 ^ k → (count_trailing_zeros k n < k) × (bit n (count_trailing_zeros k n) ≡ true)
unfolding count_trailing_zeros
lowest zero n h l = absurd (omega arith)
lowest (suc k) n h l = go (n % 2) refl (λ r. lowest k (n / 2) r (shr_lt k 1 (subst (λ (x : ℕ). n < 2 ^ x) (sym (add-one k)) l)))
  where
    go : (d : ℕ) → n % 2 ≡ d → (0 < n / 2 → (count_trailing_zeros k (n / 2) < k) × (bit (n / 2) (count_trailing_zeros k (n / 2)) ≡ true))
        → (under d (count_trailing_zeros k (n / 2)) < suc k) × (bit n (under d (count_trailing_zeros k (n / 2))) ≡ true)
    go zero e half = let r = half (omega arith) in let s = r.0 in (omega arith, bit_suc n (count_trailing_zeros k (n / 2)) ∙ r.1)
    go (suc d) e half = let o : n % 2 ≡ 1 = omega arith in (omega arith, bit_zero n ∙ ap (λ (x : ℕ). eqb x 1) o)

-- a set with a member is not empty
pub inhabited : (w j : ℕ) → bit w j ≡ true → 0 < w
inhabited zero j e = absurd (false≢true (sym (bit_none j) ∙ e))
inhabited (suc w) j e = omega arith

-- a and b have a member in common where `a & b` is not empty
pub common : (a b : ℕ) → a < 2 ^ 16 → (ltb 0 (bit_and a b) ≡ true) ↔ ((j : ℕ) × (j < 16) × (bit b j ≡ true) × (bit a j ≡ true))
common a b fits = (
  λ e. let h = and_le_l a b in let (l, m) = lowest 16 (bit_and a b) (ltb-true 0 (bit_and a b) e) (omega arith) in let (x, y) = and_parts (bit a _) (bit b _) (sym (bit_and_lem a b _) ∙ m) in (_, l, y, x),
  λ (j, l, y, x). lt-ltb 0 (bit_and a b) (inhabited (bit_and a b) j (bit_and_lem a b j ∙ and_both (bit a j) (bit b j) x y)),
)

-- ── Those of a that are none of b ──
xor2 : (x y : ℕ) → x < 2 → y < 2 → eqb (bit_xor x y) 1 ≡ xor (eqb x 1) (eqb y 1)
unfolding xor
xor2 zero zero p q = refl
xor2 zero (suc zero) p q = refl
xor2 (suc zero) zero p q = refl
xor2 (suc zero) (suc zero) p q = refl
xor2 zero (suc (suc y)) p q = absurd (not-suc-le-zero (le_of_suc-le-suc (le_of_suc-le-suc q)))
xor2 (suc zero) (suc (suc y)) p q = absurd (not-suc-le-zero (le_of_suc-le-suc (le_of_suc-le-suc q)))
xor2 (suc (suc x)) y p q = absurd (not-suc-le-zero (le_of_suc-le-suc (le_of_suc-le-suc p)))

bit_xor_lem : (a b i : ℕ) → bit (bit_xor a b) i ≡ xor (bit a i) (bit b i)
unfolding bit
bit_xor_lem a b i =
    ap (λ (x : ℕ). eqb (x % 2) 1) (xor_shr a b i)
    ∙ ap (λ (x : ℕ). eqb x 1) (xor_mod (a / 2 ^ i) (b / 2 ^ i) 1)
    ∙ xor2 (a / 2 ^ i % 2) (b / 2 ^ i % 2) (omega arith) (omega arith)

xor_and : (a b : Bool) → xor a (and a b) ≡ and a (not b)
unfolding xor
xor_and true true = refl
xor_and true false = refl
xor_and false b = refl

pub bit_without : (a b i : ℕ) → bit (bit_xor a (bit_and a b)) i ≡ and (bit a i) (not (bit b i))
bit_without a b i = bit_xor_lem a (bit_and a b) i ∙ ap (xor (bit a i)) (bit_and_lem a b i) ∙ xor_and (bit a i) (bit b i)

-- ── A set with more members is larger ──
pub size_less : (n a b j : ℕ) → ((i : ℕ) → i < n → bit a i ≡ true → bit b i ≡ true) → j < n → bit a j ≡ false → bit b j ≡ true → size n a < size n b
unfolding size
size_less zero a b j h l e f = absurd (omega arith)
size_less (suc n) a b j h l e f = ⊎_elim
    (λ (q : j ≡ n).
    let s = size_mono n a b (λ i r. h i (omega arith)) in
    let x : one (bit a n) ≡ 0 = ap one (subst (λ (k : ℕ). bit a k ≡ false) q e) in
    let y : one (bit b n) ≡ 1 = ap one (subst (λ (k : ℕ). bit b k ≡ true) q f) in
    omega arith)
    (λ (q : j < n).
    let s = size_less n a b j (λ i r. h i (omega arith)) q e f in
    let o = one_le (bit a n) (bit b n) (h n (omega arith)) in
    omega arith)
    (eq-or-lt_of_le (le_of_suc-le-suc l))

-- ── The members of a set that `union` and `insert` make ──
pub union_iff : (a b r : ℕ) → ((i : ℕ) → bit r i ≡ or (bit a i) (bit b i)) → (j : ℕ) → (bit r j ≡ true) ↔ ((bit a j ≡ true) ⊎ (bit b j ≡ true))
union_iff a b r union j = (λ e. or_cases (bit a j) (bit b j) (sym (union j) ∙ e), λ c. union j ∙ back c)
  where
    back : (bit a j ≡ true) ⊎ (bit b j ≡ true) → or (bit a j) (bit b j) ≡ true
    back (inl e) = or_left (bit a j) (bit b j) e
    back (inr e) = or_right (bit a j) (bit b j) e

-- ── The set of one position, as `insert` makes it of the empty set ──
module _ (i s : ℕ) (single : (k : ℕ) → bit s k ≡ or (is k i) (bit 0 k)) where
  pub single_in : bit s i ≡ true
  single_in = single i ∙ ap (λ x. or x (bit 0 i)) (eq-eqb i i refl)

  pub single_out : (k : ℕ) → k ≢ i → bit s k ≡ false
  single_out k n = single k ∙ ap (λ x. or x (bit 0 k)) (ne_eqb k i n) ∙ bit_none k

-- r is a without i
pub record Taken (i a r : ℕ) : Type 0 where
  pub out : bit r i ≡ false
  pub other : (k : ℕ) → k ≢ i → bit r k ≡ bit a k

pub taken : (i s a r : ℕ) → ((k : ℕ) → bit s k ≡ or (is k i) (bit 0 k)) → ((k : ℕ) → bit r k ≡ and (bit a k) (not (bit s k))) → Taken i a r
taken i s a r single without =
    record {
      out = without i ∙ ap (λ x. and (bit a i) (not x)) (single_in i s single) ∙ and_false (bit a i);
      other = λ k n. without k ∙ ap (λ x. and (bit a k) (not x)) (single_out i s single k n) ∙ and_true (bit a k);
    }
  where
    and_false : (x : Bool) → and x false ≡ false
    and_false true = refl
    and_false false = refl

    and_true : (x : Bool) → and x true ≡ x
    and_true true = refl
    and_true false = refl
