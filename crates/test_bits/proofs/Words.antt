-- A word with one bit as told: the bit is set, and then flipped if it is to be 0.
use Prim.Native.Nat.{ℕ, zero, suc, ◌%◌, ◌/◌, ◌^◌, ◌<◌}
use mathlib.Core.Path.{◌≡◌, refl, ap, ap₂, ◌∙◌}
use mathlib.Core.Bool.{Bool, true, false, not}
use native.Mathlib.Omega.{arith}
use lib.Dec.{eqb}
use lib.Bits.{bit_xor, xor_shr, xor_mod}
use Rattle.bits.specs.Sets.{bit, or, is}
use Rattle.bits.proofs.SetLaws.{bit_single}
use Rattle.document_spec.specs.Binary.{pick}

xor2 : (x y : ℕ) → x < 2 → y < 2 → eqb (bit_xor x y) 1 ≡ pick (eqb y 1) (not (eqb x 1)) (eqb x 1)
xor2 zero zero p q = refl
xor2 zero (suc zero) p q = refl
xor2 (suc zero) zero p q = refl
xor2 (suc zero) (suc zero) p q = refl
xor2 zero (suc (suc y)) p q = absurd (omega arith)
xor2 (suc zero) (suc (suc y)) p q = absurd (omega arith)
xor2 (suc (suc x)) y p q = absurd (omega arith)

-- where b has a bit, that of a is the other way round
bit_xor_lem : (a b i : ℕ) → bit (bit_xor a b) i ≡ pick (bit b i) (not (bit a i)) (bit a i)
unfolding bit
bit_xor_lem a b i =
    ap (λ (x : ℕ). eqb (x % 2) 1) (xor_shr a b i)
    ∙ ap (λ (x : ℕ). eqb x 1) (xor_mod (a / 2 ^ i) (b / 2 ^ i) 1)
    ∙ xor2 (a / 2 ^ i % 2) (b / 2 ^ i % 2) (omega arith) (omega arith)

-- r is w with bit j set
module _ (w r j : ℕ) (set : (i : ℕ) → bit r i ≡ or (is i j) (bit w i)) where
  pub told_true : (i : ℕ) → bit r i ≡ pick (is i j) true (bit w i)
  told_true i = set i ∙ go (is i j) (bit w i)
    where
      go : (p x : Bool) → or p x ≡ pick p true x
      go true x = refl
      go false x = refl

  pub told_false : (i : ℕ) → bit (bit_xor r (2 ^ j)) i ≡ pick (is i j) false (bit w i)
  told_false i = bit_xor_lem r (2 ^ j) i ∙ ap₂ (λ p x. pick p (not x) x) (bit_single j i) (set i) ∙ go (is i j) (bit w i)
    where
      go : (p x : Bool) → pick p (not (or p x)) (or p x) ≡ pick p false x
      go true x = refl
      go false x = refl
