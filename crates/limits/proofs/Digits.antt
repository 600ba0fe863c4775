-- The leading zeros of a number of a width leave its binary digits.
use Prim.Native.Nat.{ℕ, zero, suc, ◌+◌, ◌/◌, ◌%◌, ◌^◌, ◌<◌}
use mathlib.Core.Path.{◌≡◌, refl, sym, ap, ◌∙◌}
use mathlib.Core.List.{[], ◌∷◌}
use lib.ListN.{length, length-append}
use lib.Count.{count_leading_zeros, leading_of_zero}
use lib.Dec.{lit<}
use native.Mathlib.Omega.{arith}
use native.Mathlib.Nat.{div-add-mod'}
use native.Mathlib.Decide.{dec_lt}
use Rattle.lists.specs.Text.{digits, digits_by, binary_digits}
use Rattle.lists.proofs.Numerals.{digits_one, digits_more}
use Rattle.limits.specs.Limits.{document_nodes, node_digits}

-- the most nodes have the most digits
pub node_digits_lem : binary_digits document_nodes ≡ node_digits
unfolding binary_digits digits digits_by
node_digits_lem = refl

half_digits : (n : ℕ) → 1 < n → binary_digits n ≡ suc (binary_digits (n / 2))
unfolding binary_digits
half_digits n h =
    ap (λ (m : ℕ). length (digits 2 m)) (sym (div-add-mod' n 2))
    ∙ ap length (digits_more 2 (lit< tt) (n / 2) (n % 2) (omega arith) (omega arith))
    ∙ length-append (digits 2 (n / 2)) (n % 2 ∷ []) ∙ (let e : length (digits 2 (n / 2)) + 1 ≡ suc (length (digits 2 (n / 2))) = omega arith in e)

one_digit : (n : ℕ) → n ≡ 1 → binary_digits n ≡ 1
unfolding binary_digits
one_digit n e = ap (λ (m : ℕ). length (digits 2 m)) e ∙ ap length (digits_one 2 (lit< tt) 1 (lit< tt))

pub leading_digits : (k n : ℕ) → 0 < n → n < 2 ^ k → count_leading_zeros k n + binary_digits n ≡ k
unfolding count_leading_zeros
leading_digits zero n h g = absurd (omega arith)
leading_digits (suc k) zero h g = absurd (omega arith)
leading_digits (suc k) (suc n) h g = go (dec_lt 1 (suc n)) (λ r. leading_digits k (suc n / 2) (omega arith) (omega arith))
  where
    go : Dec (1 < suc n) → (1 < suc n → count_leading_zeros k (suc n / 2) + binary_digits (suc n / 2) ≡ k) → count_leading_zeros k (suc n / 2) + binary_digits (suc n) ≡ suc k
    go (yes r) ih = omega (arith, ih r, half_digits (suc n) r)
    go (no f) ih =
        let z : suc n / 2 ≡ 0 = omega arith in
        omega (arith, one_digit (suc n) (omega arith), ap (count_leading_zeros k) z ∙ leading_of_zero k)
