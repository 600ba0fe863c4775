-- The cells of a node's words and of the link to it: which are apart, and that all of them are the table's own.
use Prim.Native.Nat.{ℕ, ◌*◌, ◌≤◌, ◌<◌}
use mathlib.Core.Path.{◌≡◌, refl, sym, subst}
use mathlib.Core.Logic.{◌≢◌}
use mathlib.Core.Bool.{Bool, true, false}
use mathlib.Core.List.{List, [], ◌∷◌}
use lib.Dec.{ltb}
use native.Mathlib.Omega.{arith}
use Rattle.layout.specs.Table.{COLUMNS, column}
use Rattle.layout.specs.Words.{cell, Wrote, Kept}
use Rattle.layout.proofs.Cells.{wrote_then}
use Rattle.table.specs.Writes.{entered, hung, parent_by}

-- the children's columns are the third and the fourth
pub sides : (n : ℕ) (side : Bool) → (2 * n ≤ column side * n) × (column side * n ≤ 3 * n)
sides n true = (omega arith, omega arith)
sides n false = (omega arith, omega arith)

pub apart : (n : ℕ) (x y : Bool) (u w : ℕ) → u < n → w < n → ¬ ((x ≡ y) × (u ≡ w)) → cell n (column x) u ≢ cell n (column y) w
apart n true true u w l r h = λ e. h (refl, omega arith)
apart n true false u w l r h = omega arith
apart n false true u w l r h = omega arith
apart n false false u w l r h = λ e. h (refl, omega arith)

-- the node entered, and then the link to it from its parent
pub hung_then : (n v at d b u : ℕ) (side : Bool) {t t₁ t₂ : List ℕ} → ltb b d ≡ side → parent_by t n v d side ≡ u → u < v → v < n → d < n
    → Wrote (entered n v at d u) t t₁ → Wrote ((cell n (column side) u, v) ∷ []) t₁ t₂
    → Wrote (hung n v at d (ltb b d) (parent_by t n v d (ltb b d))) t t₂
hung_then n v at d b u side {t} {t₁} {t₂} e q r l k p w =
    let z = sides n side in
    let own : (x : Bool) → cell n (column x) v ≢ cell n (column side) u = λ x. apart n x side v u l (omega arith) (λ h. let y = h.1 in omega arith) in
    subst (λ x. Wrote (hung n v at d x (parent_by t n v d x)) t t₂) (sym e)
    (subst (λ y. Wrote (hung n v at d side y) t t₂) (sym q)
    (wrote_then {ws = entered n v at d u} p (omega arith, (omega arith, (own false, (own true, (omega arith, (omega arith, tt)))))) w))

-- ── What is behind the table ──
module _ (n v at d u : ℕ) {t t' : List ℕ} (inside : v < n) (shallow : d < n) where
  pub entered_kept : Wrote (entered n v at d u) t t' → Kept (COLUMNS * n) t t'
  entered_kept w = record { long = w.long; front = λ k h. absurd (omega arith); behind = λ k h. w.other k (omega arith) }

  pub hung_kept : (side : Bool) → u < n → Wrote (hung n v at d side u) t t' → Kept (COLUMNS * n) t t'
  hung_kept side r w = record { long = w.long; front = λ k h. absurd (omega arith); behind = λ k h. let b = sides n side in w.other k (omega arith) }
