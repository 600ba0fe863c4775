-- The loop that gives the ranks along the sorted nodes, by the keys in the columns.
use Prim.Native.Nat.{ℕ, suc, ◌+◌, ◌≤◌, ◌<◌}
use mathlib.Core.Path.{◌≡◌, refl, ap₂, ◌∙◌}
use mathlib.Core.List.{List, [], ◌∷◌}
use lib.Dec.{ltb}
use native.Mathlib.Omega.{arith}
use Rattle.bits.specs.Sets.{one}
use Rattle.layout.specs.Table.{AMOUNT}
use Rattle.layout.specs.Words.{cell, Wrote, Within}
use Rattle.sorting.specs.Sorting.{entry, Entries}
use Rattle.sorting.proofs.Order.{number_order}
use Rattle.sorting.proofs.Numbering as Generic
use Rattle.amounts.specs.Keys.{key_in, Keys}
use Rattle.amounts.specs.Steps.{Numbered}
use Rattle.amounts.proofs.Sorting.{keys_kept}

-- ── The ranks so far ──
pub record Numbering (n i u r : ℕ) (t₀ t : List ℕ) : Type 0 where
  pub along : (key : ℕ → ℕ) → Keys n key t₀ → Generic.Numbering ◌<◌ ltb key n AMOUNT i u r t₀ t

pub numbering_none : (n u : ℕ) (t : List ℕ) → u ≡ entry t n 0 → Numbering n 0 u 0 t t
numbering_none n u t e = record { along = λ key h. Generic.numbering_none key n AMOUNT u t e }

module _ {n i u r : ℕ} {t₀ t : List ℕ} (g : Numbering n i u r t₀ t) where
  -- what does not hang on the keys
  abbrev own : Generic.Numbering ◌<◌ ltb (λ v. key_in t₀ n v) n AMOUNT i u r t₀ t
  own = g.along (λ v. key_in t₀ n v) (λ v l. refl)

  pub numbering_within : Within n AMOUNT (suc AMOUNT) t₀ t
  numbering_within = own.within

  pub numbering_small : r ≤ i
  numbering_small = own.small

  module _ (en : Entries n n t₀) (l : i < n) where
    pub numbering_last : u < n
    numbering_last = Generic.numbering_last en own l

    module _ {v : ℕ} (e : v ≡ entry t n i) where
      pub numbering_below : v < n
      numbering_below = Generic.numbering_below en own l (omega arith) e

      pub numbering_step : {t' : List ℕ} (k : ℕ) → k ≤ 1 → k ≡ one (ltb (key_in t n u) (key_in t n v))
          → Wrote ((cell n AMOUNT v, r + k) ∷ []) t t' → Numbering n (suc i) v (r + k) t₀ t'
      numbering_step k q f w =
          record {
            along = λ key h. let m = keys_kept (omega arith) numbering_within h in
                Generic.numbering_step en (g.along key h) l (omega arith) e number_order k q (f ∙ ap₂ (λ (a b : ℕ). one (ltb a b)) (m u numbering_last) (m v numbering_below)) w;
          }

  pub numbering_all : n ≤ i → Numbered n t₀ t
  numbering_all l = record { within = numbering_within; in_order = λ key h z. Generic.numbering_all number_order (g.along key h) l z }
