-- The number of pairs of a matrix, or of several that stand one behind the other.
use Prim.Native.Nat.{ℕ, zero, suc, ◌+◌, ◌*◌, ◌≤◌, ◌<◌, zero-le}
use mathlib.Core.Path.{◌≡◌, refl, sym, ap, ap₂, ◌∙◌}
use mathlib.Core.Bool.{Bool, true, false}
use mathlib.Core.List.{List}
use native.Mathlib.Nat.{add_assoc, add-suc, add-zero}
use native.Mathlib.Numerals.{add-one}
use native.Mathlib.Omega.{arith}
use lib.ListN.{get_or}
use Rattle.bits.specs.Sets.{bit, one, size}
use Rattle.bits.proofs.SetLaws.{size_le, size_mono}
use Rattle.matrices.specs.Matrices.{Related, pairs}

pub pairs_more : (p : List ℕ) (at k : ℕ) → pairs p at (k + 1) ≡ pairs p at k + size 16 (get_or p (at + k) 0)
unfolding pairs
pairs_more p at k = ap (pairs p at) (add-one k)

pub pairs_le : (p : List ℕ) (at k : ℕ) → pairs p at k ≤ 16 * k
unfolding pairs
pairs_le p at zero = zero-le
pairs_le p at (suc k) = let h = pairs_le p at k in let r = size_le 16 (get_or p (at + k) 0) in omega arith

-- ── No pairs ──
one_none : (b : Bool) → ¬ (b ≡ true) → one b ≡ 0
one_none true f = absurd (f refl)
one_none false f = refl

size_none : (n w : ℕ) → ((j : ℕ) → ¬ (bit w j ≡ true)) → size n w ≡ 0
unfolding size
size_none zero w f = refl
size_none (suc n) w f = ap₂ (λ x y. x + y) (size_none n w f) (one_none (bit w n) (f n))

pub pairs_none : (p : List ℕ) (at k : ℕ) → ((i j : ℕ) → i < k → ¬ Related p at i j) → pairs p at k ≡ 0
unfolding pairs
pairs_none p at zero f = refl
pairs_none p at (suc k) f = ap₂ (λ x y. x + y) (pairs_none p at k (λ i j l. f i j (omega arith))) (size_none 16 (get_or p (at + k) 0) (λ j. f k j (omega arith)))

-- ── Two lists ──
module _ (p q : List ℕ) (at : ℕ) where
  -- the same words have the same pairs
  pub pairs_same : (k : ℕ) → ((i : ℕ) → i < k → get_or q (at + i) 0 ≡ get_or p (at + i) 0) → pairs q at k ≡ pairs p at k
  unfolding pairs
  pairs_same zero h = refl
  pairs_same (suc k) h = ap₂ (λ x y. x + y) (pairs_same k (λ i l. h i (omega arith))) (ap (size 16) (h k (omega arith)))

  -- a larger relation has no less
  pub pairs_mono : (k : ℕ) → ((i j : ℕ) → i < k → j < 16 → Related p at i j → Related q at i j) → pairs p at k ≤ pairs q at k
  unfolding pairs
  pairs_mono zero h = zero-le
  pairs_mono (suc k) h =
      let r = pairs_mono k (λ i j l. h i j (omega arith)) in
      let s = size_mono 16 (get_or p (at + k) 0) (get_or q (at + k) 0) (λ j. h k j (omega arith)) in
      omega arith

pub pairs_split : (p : List ℕ) (at k l : ℕ) → pairs p at (k + l) ≡ pairs p at k + pairs p (at + k) l
unfolding pairs
pairs_split p at k zero = ap (pairs p at) (add-zero k) ∙ sym (add-zero (pairs p at k))
pairs_split p at k (suc l) =
    let e = pairs_split p at k l in
    let s : size 16 (get_or p (at + (k + l)) 0) ≡ size 16 (get_or p (at + k + l) 0) = ap (λ x. size 16 (get_or p x 0)) (sym (add_assoc at k l)) in
    ap (pairs p at) (add-suc k l) ∙ omega arith
