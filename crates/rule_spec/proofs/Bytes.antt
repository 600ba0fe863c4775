-- What the tests say that compute: choices, comparisons, and the bytes of names, constants and numbers.
use Prim.Native.Nat.{ℕ, ◌≤◌, ◌<◌}
use native.Mathlib.Omega.{arith}
use mathlib.Core.Path.{◌≡◌, refl, ap}
use mathlib.Core.Logic.{◌⊎◌, inl, inr, ◌↔◌}
use mathlib.Core.Bool.{Bool, true, false}
use lib.Dec.{eqb, leb, ltb}
use borrow.Author.Tests.{leb-true, le-leb, ltb-true, lt-ltb, eqb-true, eq-eqb}
use Rattle.lists.specs.Text.{Printable, Letter, Digit, NameByte}
use Rattle.rule_spec.specs.Bytes.{choose, both, either, between, is_letter, is_name_byte, is_digit, is_printable}

pub clash : {A : Type 0} → false ≡ true → A
clash e = let z : ◌≡◌ {A = ℕ} 0 1 = ap (λ t. choose t 1 0) e in absurd (omega arith)

-- a test fails where what it tests does not hold
pub is_false : {A : Type 0} (t : Bool) → (t ≡ true) ↔ A → ¬ A → t ≡ false
is_false true p f = absurd (f (p.0 refl))
is_false false p f = refl

-- each says what it tests
pub both_iff : {A B : Type 0} (a b : Bool) → (a ≡ true) ↔ A → (b ≡ true) ↔ B → (both a b ≡ true) ↔ (A × B)
both_iff true b p q = (λ e. (p.0 refl, q.0 e), λ h. q.1 h.1)
both_iff false b p q = (λ e. clash e, λ h. p.1 h.0)

pub either_iff : {A B : Type 0} (a b : Bool) → (a ≡ true) ↔ A → (b ≡ true) ↔ B → (either a b ≡ true) ↔ (A ⊎ B)
either_iff {A} {B} a b p q = (in_either a p, from a p)
  where
    in_either : (a : Bool) → (a ≡ true) ↔ A → either a b ≡ true → A ⊎ B
    in_either true p e = inl (p.0 refl)
    in_either false p e = inr (q.0 e)

    from : (a : Bool) → (a ≡ true) ↔ A → A ⊎ B → either a b ≡ true
    from true p h = refl
    from false p (inl h) = clash (p.1 h)
    from false p (inr h) = q.1 h

pub le_iff : (m n : ℕ) → (leb m n ≡ true) ↔ (m ≤ n)
le_iff m n = (leb-true m n, le-leb m n)

pub lt_iff : (m n : ℕ) → (ltb m n ≡ true) ↔ (m < n)
lt_iff m n = (ltb-true m n, lt-ltb m n)

pub eq_iff : (m n : ℕ) → (eqb m n ≡ true) ↔ (m ≡ n)
eq_iff m n = (eqb-true m n, eq-eqb m n)

between_iff : (low high b : ℕ) → (between low high b ≡ true) ↔ ((low ≤ b) × (b ≤ high))
between_iff low high b = both_iff _ _ (le_iff low b) (le_iff b high)

pub letter_iff : (b : ℕ) → (is_letter b ≡ true) ↔ Letter b
unfolding is_letter
letter_iff b = between_iff 97 122 b

pub printable_iff : (b : ℕ) → (is_printable b ≡ true) ↔ Printable b
unfolding is_printable
printable_iff b = between_iff 0x20 0x7e b

pub digit_iff : (b : ℕ) → (is_digit b ≡ true) ↔ Digit b
unfolding is_digit
digit_iff b = between_iff 48 57 b

pub nameByte_iff : (b : ℕ) → (is_name_byte b ≡ true) ↔ NameByte b
unfolding is_name_byte
nameByte_iff b = either_iff _ _ (between_iff 97 122 b) (either_iff _ _ (between_iff 48 57 b) (eq_iff b 45))
