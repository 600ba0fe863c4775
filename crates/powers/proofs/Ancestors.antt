-- The node some edges above a node.
use Prim.Native.Nat.{ℕ, suc, ◌+◌, ◌^◌}
use mathlib.Core.Path.{◌≡◌, refl, sym, subst}
use mathlib.Core.Logic.{◌⊎◌, inl, inr}
use native.Mathlib.Omega.{arith}
use native.Mathlib.Numerals.{add-one}
use Rattle.xpath.specs.Tree.{Tree, WellFormed, Down}
use Rattle.xpath.proofs.Trees.{down_join, down_split, down_zero, ancestors}

module _ {t : Tree} (wf : WellFormed t) where
  -- there is one at most
  pub one_above : {x x' y n : ℕ} → Down t x y n → Down t x' y n → x ≡ x'
  one_above {x} {x'} {y} {n} d e = go (ancestors t wf d e)
    where
      go : ((k : ℕ) × (n + k ≡ n) × Down t x' x k) ⊎ ((k : ℕ) × (n + k ≡ n) × Down t x x' k) → x ≡ x'
      go (inl (k, q, f)) = sym (down_zero t wf (omega arith) f)
      go (inr (k, q, f)) = down_zero t wf (omega arith) f

  twice_as_far : (k : ℕ) → 2 ^ k + 2 ^ k ≡ 2 ^ (k + 1)
  twice_as_far k = let e : 2 ^ suc k ≡ 2 ^ (k + 1) = subst (λ (z : ℕ). 2 ^ suc k ≡ 2 ^ z) (sym (add-one k)) refl in omega arith

  -- a power k + 1 is two powers k
  pub power_join : {x h y : ℕ} (k : ℕ) → Down t x h (2 ^ k) → Down t h y (2 ^ k) → Down t x y (2 ^ (k + 1))
  power_join {x} {y = y} k d e = subst (λ (z : ℕ). Down t x y z) (twice_as_far k) (down_join t wf d e)

  pub power_split : {x y : ℕ} (k : ℕ) → Down t x y (2 ^ (k + 1)) → (h : ℕ) × Down t x h (2 ^ k) × Down t h y (2 ^ k)
  power_split k d = down_split t wf (2 ^ k) (2 ^ k) (twice_as_far k) d

  -- over a node that is known
  pub power_over : {x h y : ℕ} (k : ℕ) → Down t h y (2 ^ k) → Down t x y (2 ^ (k + 1)) → Down t x h (2 ^ k)
  power_over {x} k e d = let (u, f, g) = power_split k d in subst (λ (z : ℕ). Down t x z (2 ^ k)) (one_above g e) f
