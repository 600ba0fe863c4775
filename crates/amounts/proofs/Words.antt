-- The keys in their columns: what is written is what is read again.
use Prim.Native.Nat.{ℕ, ◌/◌, ◌%◌, ◌<◌}
use mathlib.Core.Path.{◌≡◌}
use mathlib.Core.Logic.{◌≢◌}
use mathlib.Core.List.{List, [], ◌∷◌}
use native.Mathlib.Omega.{arith}
use Rattle.layout.specs.Table.{COLUMNS}
use Rattle.layout.specs.Ranking.{KEY_LOW, KEY_MIDDLE, KEY_HIGH}
use Rattle.layout.specs.Words.{cell, Wrote, Within}
use Rattle.layout.proofs.Cells.{wrote_then}
use Rattle.amounts.specs.Keys.{key_in, keyed}

-- one word after the other
pub keyed_wrote : (n v k : ℕ) {t t₁ t₂ t₃ : List ℕ} → v < n
    → Wrote ((cell n KEY_LOW v, k % 65_536) ∷ []) t t₁ → Wrote ((cell n KEY_MIDDLE v, k / 65_536 % 65_536) ∷ []) t₁ t₂
    → Wrote ((cell n KEY_HIGH v, k / 65_536 / 65_536) ∷ []) t₂ t₃ → Wrote (keyed n v k) t t₃
keyed_wrote n v k r p q z = wrote_then (wrote_then p (omega arith) q) (omega arith) z

module _ (n v k : ℕ) {t t' : List ℕ} (w : Wrote (keyed n v k) t t') where
  pub key_written : key_in t' n v ≡ k
  key_written = let a = w.here.0 in let b = w.here.1.0 in let c = w.here.1.1.0 in omega arith

  pub key_other : (u : ℕ) → u < n → v < n → u ≢ v → key_in t' n u ≡ key_in t n u
  key_other u l r d =
      let a = w.other (cell n KEY_LOW u) (omega arith) in
      let b = w.other (cell n KEY_MIDDLE u) (omega arith) in
      let c = w.other (cell n KEY_HIGH u) (omega arith) in
      omega arith

  pub keyed_within : v < n → Within n KEY_LOW COLUMNS t t'
  keyed_within r = record { long = w.long; front = λ i h. w.other i (omega arith); behind = λ i h. w.other i (omega arith) }
