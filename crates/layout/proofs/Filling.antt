-- A column that is filled word by word.
use Prim.Native.Nat.{ℕ, ◌+◌, ◌<◌}
use mathlib.Core.Path.{◌≡◌, ap, ◌∙◌}
use mathlib.Core.List.{List, [], ◌∷◌}
use native.Mathlib.Decide.{ℕ_discrete}
use native.Mathlib.Omega.{arith}
use Rattle.layout.specs.Words.{cell, word, Wrote, Filled}
use Rattle.layout.proofs.Frames.{within_none, within_then, within_put}

pub filled_none : (n c x : ℕ) (p : List ℕ) → Filled n c x 0 p p
filled_none n c x p = record { inside = omega arith; within = within_none p; filled = λ u h. absurd (omega arith) }

pub filled_step : {n c x v : ℕ} {p₀ p p' : List ℕ} → Filled n c x v p₀ p → v < n → Wrote ((cell n c v, x) ∷ []) p p' → Filled n c x (v + 1) p₀ p'
filled_step {n} {c} {x} {v} {p₀} {p} {p'} f l w =
    record { inside = omega arith; within = within_then f.within (within_put (omega arith) (omega arith) l w); filled = λ u h. go u h (ℕ_discrete u v) }
  where
    go : (u : ℕ) → u < v + 1 → Dec (u ≡ v) → word p' n c u ≡ x
    go u h (yes e) = ap (λ (i : ℕ). word p' n c i) e ∙ w.here.0
    go u h (no d) = w.other (cell n c u) (omega arith, tt) ∙ f.filled u (omega arith)
