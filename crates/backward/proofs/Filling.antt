-- Two columns filled, and nothing seen.
use Prim.Native.Nat.{ℕ, ◌+◌, ◌*◌, ◌≤◌}
use mathlib.Core.Path.{◌≡◌, sym, ◌∙◌, subst}
use mathlib.Core.Logic.{⊎_elim}
use mathlib.Core.List.{List}
use native.Mathlib.Nat.{mul-le-mul_right}
use native.Mathlib.Omega.{arith}
use Rattle.layout.specs.Part.{SEEN, Space}
use Rattle.layout.specs.Sweeps.{LEAST}
use Rattle.layout.specs.Words.{cell, Filled}
use Rattle.reach.specs.Work.{Spared}
use Rattle.reach.proofs.Adding.{spared_space}
use Rattle.reach.proofs.Clearing.{work_none}
use Rattle.retracing.specs.Notes.{column_of, Paired}
use Rattle.retracing.specs.declared.bounds.Bound.{Bound}
use Rattle.retracing.proofs.Noting.{column_paired}
use Rattle.backward.specs.Sweeps.{Blanked}

-- by the number of the first column
pub blanked_at : {n c x : ℕ} {p p₁ p₂ p₃ : List ℕ} → Space n p → Paired c → Filled n SEEN 0 n p p₁ → Filled n c x n p₁ p₂ → Filled n (c + 1) x n p₂ p₃ → Blanked n c x p p₃
blanked_at {n} {c} {x} {p} {p₁} {p₂} {p₃} space paired f g h =
    let low : LEAST * n ≤ c * n = mul-le-mul_right n paired.0 in
    record {
      spared = spared;
      made = record {
        work = work_none n p₃ (λ u l. h.within.front (cell n SEEN u) (omega arith) ∙ g.within.front (cell n SEEN u) (omega arith) ∙ f.filled u l) (spared_space spared space);
        first = λ v l. h.within.front (cell n c v) (omega arith) ∙ g.filled v l;
        second = h.filled;
      };
    }
  where
    spared : Spared n c p p₃
    spared =
        let low : LEAST * n ≤ c * n = mul-le-mul_right n paired.0 in
        record {
          same = record {
            long = h.within.long ∙ g.within.long ∙ f.within.long;
            same = λ k. ⊎_elim
                (λ l. h.within.front k (omega arith) ∙ g.within.front k (omega arith) ∙ f.within.front k l)
                (λ (l, r). h.within.front k (omega arith) ∙ g.within.front k r ∙ f.within.behind k (omega arith));
          };
        }

-- by the bound whose column that is
pub blanked : {n c x : ℕ} {p p₁ p₂ p₃ : List ℕ} (bound : Bound) → c ≡ column_of bound → Space n p → Filled n SEEN 0 n p p₁ → Filled n c x n p₁ p₂ → Filled n (c + 1) x n p₂ p₃
    → Blanked n (column_of bound) x p p₃
blanked {n} {x = x} {p} {p₃ = p₃} bound e space f g h =
    subst (λ (y : ℕ). Blanked n y x p p₃) e (blanked_at space (subst Paired (sym e) (column_paired bound)) f g h)
