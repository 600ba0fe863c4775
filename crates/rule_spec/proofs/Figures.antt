-- The n of a count: what the machine takes of it, digit by digit, are the decimal numbers up to 4,096.
use Prim.Native.Nat.{ℕ, ◌+◌, ◌-◌, ◌*◌, ◌≤◌, ◌<◌}
use native.Mathlib.Omega.{arith}
use mathlib.Core.Path.{◌≡◌, refl}
use mathlib.Core.Logic.{◌⊎◌, inl, inr, ◌↔◌}
use mathlib.Core.Bool.{true, false}
use mathlib.Core.List.{List, [], ◌∷◌, map}
use Rattle.limits.specs.Limits.{rule_count}
use Rattle.lists.specs.Lists.{All}
use Rattle.lists.specs.Text.{Digit, decimal}
use Rattle.lists.specs.Numerals.{value_from, reading}
use Rattle.lists.proofs.Numerals.{value_grows, Decimal, decimal_decimal, reading_first, reading_decimal}
use Rattle.rule_spec.specs.Bytes.{is_digit}
use Rattle.rule_spec.specs.Machine.{goes_on}
use Rattle.rule_spec.proofs.Bytes.{is_false, both_iff, le_iff, digit_iff}

-- ── Digit by digit ──
pub goesOn_iff : (m b : ℕ) → (goes_on m b ≡ true) ↔ (Digit b × ((1 ≤ m) × (m * 10 + (b - 48) ≤ rule_count)))
goesOn_iff m b = both_iff _ _ (digit_iff b) (both_iff _ _ (le_iff 1 m) (le_iff _ rule_count))

pub goesOn_not : (m b : ℕ) → ¬ (Digit b × ((1 ≤ m) × (m * 10 + (b - 48) ≤ rule_count))) → goes_on m b ≡ false
goesOn_not m b = is_false (goes_on m b) (goesOn_iff m b)

-- digits that go on with m, each with the number before it
abbrev pub Figures : ℕ → List ℕ → Type 0
Figures m [] = Unit {0}
Figures m (b ∷ bs) = (goes_on m b ≡ true) × Figures (m * 10 + (b - 48)) bs

-- a first digit, and those that go on with it
abbrev pub Number : List ℕ → Type 0
Number [] = ⊥
Number (b ∷ bs) = (is_digit b ≡ true) × Figures (b - 48) bs

-- ── As one number ──
-- the number that m and the digits behind it make
abbrev onward : ℕ → List ℕ → ℕ
onward m bs = value_from 10 m (map (λ b. b - 48) bs)

figures_digits : (m : ℕ) (bs : List ℕ) → Figures m bs → All Digit bs
figures_digits m [] l = tt
figures_digits m (b ∷ bs) l = (((goesOn_iff m b).0 l.0).0, figures_digits (m * 10 + (b - 48)) bs l.1)

figures_bounded : (m : ℕ) (bs : List ℕ) → m ≤ rule_count → Figures m bs → onward m bs ≤ rule_count
figures_bounded m [] h l = h
figures_bounded m (b ∷ bs) h l = figures_bounded (m * 10 + (b - 48)) bs ((goesOn_iff m b).0 l.0).1.1 l.1

figures_lead : (m : ℕ) (bs : List ℕ) → Figures m bs → (0 < m) ⊎ (bs ≡ [])
figures_lead m [] l = inr refl
figures_lead m (b ∷ bs) l = inl ((goesOn_iff m b).0 l.0).1.0

figures_of : (m : ℕ) (bs : List ℕ) → All Digit bs → 0 < m → onward m bs ≤ rule_count → Figures m bs
figures_of m [] a p h = tt
figures_of m (b ∷ bs) a p h =
    let g = value_grows 10 (m * 10 + (b - 48)) (map (λ b. b - 48) bs) (omega arith) in
    ((goesOn_iff m b).1 (a.0, (p, omega arith)), figures_of (m * 10 + (b - 48)) bs a.1 (omega arith) h)

-- 02 (h): base ten without leading zeros, 0 to 4,096
pub number_iff : (bs : List ℕ) → Number bs ↔ (Decimal bs × (reading bs ≤ rule_count))
number_iff [] = (λ l. absurd l, λ l. absurd l.0)
number_iff (b ∷ bs) = (from, to)
  where
    from : Number (b ∷ bs) → Decimal (b ∷ bs) × (reading (b ∷ bs) ≤ rule_count)
    from l =
        let d = (digit_iff b).0 l.0 in
        (((d, figures_digits (b - 48) bs l.1), first (figures_lead (b - 48) bs l.1)), rw (reading_first b bs) (figures_bounded (b - 48) bs (omega arith) l.1))
      where
        first : (0 < b - 48) ⊎ (bs ≡ []) → (48 < b) ⊎ (bs ≡ [])
        first (inl p) = inl (omega arith)
        first (inr e) = inr e

    to : Decimal (b ∷ bs) × (reading (b ∷ bs) ≤ rule_count) → Number (b ∷ bs)
    to ((a, first), h) = ((digit_iff b).1 a.0, go first (rw (reading_first b bs) at h))
      where
        go : (48 < b) ⊎ (bs ≡ []) → onward (b - 48) bs ≤ rule_count → Figures (b - 48) bs
        go (inl p) h = figures_of (b - 48) bs a.1 (omega arith) h
        go (inr e) h = rw e tt

pub number_decimal : (k : ℕ) → k ≤ rule_count → Number (decimal k)
number_decimal k h = (number_iff (decimal k)).1 (decimal_decimal k, rw (reading_decimal k) h)
