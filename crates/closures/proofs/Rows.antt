-- The rows that are drawn for a closure: each with its own position, and each with the row of k where it has k.
use Prim.Native.Nat.{ℕ, ◌+◌, ◌<◌}
use mathlib.Core.Path.{◌≡◌, sym, ap, ◌∙◌, subst}
use mathlib.Core.Bool.{true, false, false≢true}
use mathlib.Core.Logic.{◌⊎◌, inl, inr, ◌↔◌}
use mathlib.Core.List.{List}
use native.Mathlib.Omega.{arith}
use lib.ListN.{length, get_or, set}
use borrow.Author.Tests.{eqb-true, eq-eqb}
use Rattle.bits.specs.Sets.{bit, or, is}
use Rattle.matrices.specs.Matrices.{Related, Drawing}
use Rattle.closures.specs.Closures.{Reflexive, Through}
use Rattle.matrices.proofs.Members.{or_cases, or_left, or_right, union_iff}
use Rattle.matrices.proofs.Drawing.{drawing_step, undrawn}

-- ── The next row of each kind of drawing ──
module _ {at i : ℕ} {p q : List ℕ} (x : ℕ) where
  -- with its own position
  pub reflect_step : Drawing (Reflexive (Related p at)) at i p q → at + i < length p → ((j : ℕ) → bit x j ≡ or (is j i) (bit (get_or q (at + i) 0) j))
      → Drawing (Reflexive (Related p at)) at (i + 1) p (set q (at + i) x)
  reflect_step d room insert = drawing_step d x room (λ j h. (λ e. to j (or_cases (is j i) (bit (get_or q (at + i) 0) j) (sym (insert j) ∙ e)), from j))
    where
      same : get_or q (at + i) 0 ≡ get_or p (at + i) 0
      same = undrawn d i (omega arith)

      to : (j : ℕ) → (is j i ≡ true) ⊎ (bit (get_or q (at + i) 0) j ≡ true) → Reflexive (Related p at) i j
      to j (inl e) = inl (sym (eqb-true j i e))
      to j (inr e) = inr (ap (λ (w : ℕ). bit w j) (sym same) ∙ e)

      from : (j : ℕ) → Reflexive (Related p at) i j → bit x j ≡ true
      from j (inl e) = insert j ∙ or_left (is j i) (bit (get_or q (at + i) 0) j) (eq-eqb j i (sym e))
      from j (inr a) = insert j ∙ or_right (is j i) (bit (get_or q (at + i) 0) j) (ap (λ (w : ℕ). bit w j) same ∙ a)

  -- with the row of k, where it has k
  pub join_step : (k : ℕ) {added : ℕ} → Drawing (Through (Related p at) k) at i p q → at + i < length p → added ≡ get_or p (at + k) 0
      → ((j : ℕ) → (bit x j ≡ true) ↔ ((bit (get_or q (at + i) 0) j ≡ true) ⊎ ((bit (get_or q (at + i) 0) k ≡ true) × (bit added j ≡ true))))
      → Drawing (Through (Related p at) k) at (i + 1) p (set q (at + i) x)
  join_step k {added} d room e widened = drawing_step d x room (λ j h. subst (λ (w : ℕ). (bit x j ≡ true) ↔ ((bit w j ≡ true) ⊎ ((bit w k ≡ true) × Related p at k j))) (undrawn d i (omega arith))
      (subst (λ (y : ℕ). (bit x j ≡ true) ↔ ((bit (get_or q (at + i) 0) j ≡ true) ⊎ ((bit (get_or q (at + i) 0) k ≡ true) × (bit y j ≡ true)))) e (widened j)))

-- ── A row with another added, where it has k ──
module _ (row k added : ℕ) where
  pub widened : (r : ℕ) → bit row k ≡ true → ((j : ℕ) → bit r j ≡ or (bit row j) (bit added j))
      → (j : ℕ) → (bit r j ≡ true) ↔ ((bit row j ≡ true) ⊎ ((bit row k ≡ true) × (bit added j ≡ true)))
  widened r has union j = (λ e. to ((union_iff row added r union j).0 e), λ c. (union_iff row added r union j).1 (from c))
    where
      to : (bit row j ≡ true) ⊎ (bit added j ≡ true) → (bit row j ≡ true) ⊎ ((bit row k ≡ true) × (bit added j ≡ true))
      to (inl e) = inl e
      to (inr e) = inr (has, e)

      from : (bit row j ≡ true) ⊎ ((bit row k ≡ true) × (bit added j ≡ true)) → (bit row j ≡ true) ⊎ (bit added j ≡ true)
      from (inl e) = inl e
      from (inr (f, e)) = inr e

  pub not_widened : bit row k ≡ false → (j : ℕ) → (bit row j ≡ true) ↔ ((bit row j ≡ true) ⊎ ((bit row k ≡ true) × (bit added j ≡ true)))
  not_widened has j = (inl, from)
    where
      from : (bit row j ≡ true) ⊎ ((bit row k ≡ true) × (bit added j ≡ true)) → bit row j ≡ true
      from (inl e) = e
      from (inr (f, e)) = absurd (false≢true (sym has ∙ f))
