-- The loop that answers node after node by what stands behind the answers.
use Prim.Native.Nat.{ℕ, ◌+◌, ◌≤◌, ◌<◌}
use mathlib.Core.Path.{◌≡◌, ap₂}
use mathlib.Core.Logic.{◌↔◌, inr}
use mathlib.Core.Bool.{Bool, true}
use mathlib.Core.List.{List, [], ◌∷◌}
use native.Mathlib.Omega.{arith}
use Rattle.bits.specs.Sets.{one}
use Rattle.layout.specs.Part.{ANSWER, Space}
use Rattle.layout.specs.Sweeps.{LEAST, ABOVE}
use Rattle.layout.specs.Words.{cell, Wrote, Kept}
use Rattle.layout.proofs.Frames.{frame_none, frame_then, frame_same}
use Rattle.rank_sets.specs.declared.ranges.Range.{Range}
use Rattle.rank_sets.proofs.Steady.{steady_none}
use Rattle.plain.specs.Plain.{Answered}
use Rattle.plain.proofs.Answering.{Answers, answers_none, answers_step, answers_all}
use Rattle.backward.specs.Sweeps.{range_of}

-- the nodes below v are answered, and all behind the answers is as it was
pub record Telling (n : ℕ) (A : ℕ → Type 0) (v : ℕ) (p₀ p : List ℕ) : Type 0 where
  pub answers : Answers n A v p
  pub kept : Kept n p₀ p

pub telling_none : (n : ℕ) (A : ℕ → Type 0) (p : List ℕ) → Telling n A 0 p p
telling_none n A p = record { answers = answers_none n A p; kept = frame_none p }

pub telling_step : {n v : ℕ} {A : ℕ → Type 0} {p₀ p p' : List ℕ} (b : Bool) → Telling n A v p₀ p → v < n → (b ≡ true) ↔ A v
    → Wrote ((cell n ANSWER v, one b) ∷ []) p p' → Telling n A (v + 1) p₀ p'
telling_step {n} {v} {p = p} b g l t w =
    record {
      answers = answers_step b l g.answers (steady_none n p) t w;
      kept = frame_then g.kept (record { long = w.long; front = λ k h. absurd (omega arith); behind = λ k h. w.other k (omega arith, tt) });
    }

module _ {n v : ℕ} {A : ℕ → Type 0} {p₀ p : List ℕ} (g : Telling n A v p₀ p) where
  pub telling_space : Space n p₀ → Space n p
  telling_space s = let e = g.kept.long in let r = s.room in record { some = s.some; few = s.few; room = omega arith }

  -- the ranges stand behind the answers
  pub telling_range : (u i : ℕ) → range_of p n i u ≡ range_of p₀ n i u
  telling_range u i =
      let r : ℕ → ℕ → Range = λ x y. record { least = x; above = y } in
      ap₂ r (g.kept.behind (cell n (LEAST + i) u) (omega arith)) (g.kept.behind (cell n (ABOVE + i) u) (omega arith))

  pub telling_all : n ≤ v → Answered n A p₀ p
  telling_all l = answers_all l (record { middle = frame_same (λ k h. inr (omega arith)) g.kept }) g.answers
