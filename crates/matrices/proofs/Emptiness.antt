-- The members of all rows of a matrix, in one set: where it is empty, no two positions are related.
use Prim.Native.Nat.{ℕ, ◌+◌, ◌<◌}
use mathlib.Core.Path.{◌≡◌, sym, ap, ◌∙◌, subst}
use mathlib.Core.Logic.{◌⊎◌, inl, inr}
use mathlib.Core.Bool.{true, false≢true}
use mathlib.Core.List.{List}
use native.Mathlib.Nat.{eq-or-lt_of_le, not-suc-le-zero}
use native.Mathlib.Omega.{arith}
use lib.ListN.{get_or}
use Rattle.bits.specs.Sets.{bit, or}
use Rattle.bits.proofs.SetLaws.{bit_none}
use Rattle.matrices.specs.Matrices.{Related}
use Rattle.matrices.proofs.Members.{or_left, or_right}

-- the members of the first k rows are members of w
pub record Covers (p : List ℕ) (at k w : ℕ) : Type 0 where
  pub member : (i j : ℕ) → i < k → Related p at i j → bit w j ≡ true

pub covers_none : (p : List ℕ) (at w : ℕ) → Covers p at 0 w
covers_none p at w = record { member = λ i j h r. absurd (not-suc-le-zero h) }

pub covers_more : {p : List ℕ} {at k w x : ℕ} → Covers p at k w → ((j : ℕ) → bit x j ≡ or (bit w j) (bit (get_or p (at + k) 0) j)) → Covers p at (k + 1) x
covers_more {p} {at} {k} {w} {x} c u = record { member = λ i j h r. u j ∙ go i j r (eq-or-lt_of_le (omega arith)) }
  where
    go : (i j : ℕ) → Related p at i j → (i ≡ k) ⊎ (i < k) → or (bit w j) (bit (get_or p (at + k) 0) j) ≡ true
    go i j r (inl e) = or_right (bit w j) (bit (get_or p (at + k) 0) j) (subst (λ z. Related p at z j) e r)
    go i j r (inr l) = or_left (bit w j) (bit (get_or p (at + k) 0) j) (c.member i j l r)

pub covers_empty : {p : List ℕ} {at k w : ℕ} → Covers p at k w → w ≡ 0 → (i j : ℕ) → i < k → ¬ Related p at i j
covers_empty c e i j h r = false≢true (sym (bit_none j) ∙ ap (λ z. bit z j) (sym e) ∙ c.member i j h r)
