-- A set that is gathered position by position, and the rows of a square that are made one by one.
use Prim.Native.Nat.{ℕ, ◌+◌, ◌<◌}
use native.Mathlib.Nat.{eq-or-lt_of_le}
use native.Mathlib.Omega.{arith}
use mathlib.Core.Path.{◌≡◌, sym, ap, subst, ◌∙◌}
use mathlib.Core.Bool.{Bool, true}
use mathlib.Core.Logic.{◌⊎◌, inl, inr, ⊎_elim, ◌↔◌}
use mathlib.Core.List.{List}
use lib.ListN.{length, get_or, set, length-set}
use lib.Seq.{get_or-set_same, get_or-set_other}
use Rattle.rule_spec.proofs.Bytes.{clash, eq_iff}
use Rattle.bits.specs.Sets.{bit, is, or}
use Rattle.bits.specs.Square.{cell}
use Rattle.bits.proofs.SetLaws.{bit_none}
use Rattle.path_sets.proofs.Truth.{tells_or}
use Rattle.compiler.specs.Gathered.{Gathered}

module _ (B : ℕ → Type 0) (i : ℕ) where
  pub gathered_none : ((j : ℕ) → j < i → B j → ⊥) → Gathered B i 0
  gathered_none none = record { told = λ j. (λ e. clash (sym (bit_none j) ∙ e), λ h. absurd (none j h.0 h.1)) }

  module _ {w v : ℕ} (g : Gathered B i w) where
    -- position i is inserted
    pub gathered_in : (r : ℕ) → ((j : ℕ) → bit r j ≡ or (is j i) (bit w j)) → v ≡ r → B i → Gathered B (i + 1) v
    gathered_in r inserted e here =
        record { told = λ j. let t = tells_or (is j i) (bit w j) (eq_iff j i) (g.told j) (bit v j) (ap (λ u. bit u j) e ∙ inserted j) in (λ b. to j (t.0 b), λ h. t.1 (from j h)) }
      where
        to : (j : ℕ) → (j ≡ i) ⊎ ((j < i) × B j) → (j < i + 1) × B j
        to j (inl e) = (omega arith, subst B (sym e) here)
        to j (inr (l, b)) = (omega arith, b)

        from : (j : ℕ) → (j < i + 1) × B j → (j ≡ i) ⊎ ((j < i) × B j)
        from j (l, b) = ⊎_elim (λ e. inl e) (λ k. inr (k, b)) (eq-or-lt_of_le (omega arith))

    -- position i is passed over
    pub gathered_out : v ≡ w → (B i → ⊥) → Gathered B (i + 1) v
    gathered_out e not-here = record { told = λ j. (λ b. let (l, h) = (g.told j).0 (ap (λ u. bit u j) (sym e) ∙ b) in (omega arith, h), λ h. ap (λ u. bit u j) e ∙ from j h) }
      where
        from : (j : ℕ) → (j < i + 1) × B j → bit w j ≡ true
        from j (l, b) = ⊎_elim (λ e. absurd (not-here (subst B e b))) (λ k. (g.told j).1 (k, b)) (eq-or-lt_of_le (omega arith))

pub gathered_all : {B : ℕ → Type 0} {i n w : ℕ} → i ≡ n → Gathered B i w → Gathered B n w
gathered_all {B} {w = w} e g = subst (λ n. Gathered B n w) e g

-- the rows below i are made
pub record Rows (f : List (List Bool)) (i : ℕ) (r : List ℕ) : Type 0 where
  pub long : length r ≡ 16
  pub made : (k j : ℕ) → k < i → j < 16 → (bit (get_or r k 0) j ≡ true) ↔ (cell f k j ≡ true)

module _ (f : List (List Bool)) where
  pub rows_none : {r : List ℕ} → length r ≡ 16 → Rows f 0 r
  rows_none e = record { long = e; made = λ k j l. absurd (let z : ⊥ = omega arith in z) }

  pub rows_more : (i w : ℕ) {r : List ℕ} → i < 16 → Gathered (λ j. cell f i j ≡ true) 16 w → Rows f i r → Rows f (i + 1) (set r i w)
  rows_more i w {r} l g h = record {
    long = length-set r i w ∙ h.long;
    made = λ k j p q. ⊎_elim (λ e. here k j e q) (λ m. subst (λ v. (bit v j ≡ true) ↔ (cell f k j ≡ true)) (sym (get_or-set_other r i k w 0 (omega arith))) (h.made k j m q)) (eq-or-lt_of_le (omega arith));
  }
    where
      here : (k j : ℕ) → k ≡ i → j < 16 → (bit (get_or (set r i w) k 0) j ≡ true) ↔ (cell f k j ≡ true)
      here k j e q =
          let n = h.long in
          subst (λ (k : ℕ). (bit (get_or (set r i w) k 0) j ≡ true) ↔ (cell f k j ≡ true)) (sym e)
          (subst (λ v. (bit v j ≡ true) ↔ (cell f i j ≡ true)) (sym (get_or-set_same r i w 0 (omega arith))) (λ b. ((g.told j).0 b).1, λ c. (g.told j).1 (q, c)))
