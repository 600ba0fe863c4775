-- Words that are written one after the other, and words that hold no line.
use Prim.Native.Nat.{ℕ, ◌+◌, ◌≤◌, ◌<◌}
use mathlib.Core.Path.{◌≡◌, refl, sym, ◌∙◌, subst}
use mathlib.Core.List.{List}
use native.Mathlib.Decide.{ℕ_discrete}
use native.Mathlib.Omega.{arith}
use lib.ListN.{length, get_or, set, length-set}
use lib.Seq.{get_or-set_same, get_or-set_other}
use Rattle.label_trees.specs.Trees.{held, heads, Holds}

-- the words below i are written, as f says
pub record Writing (f : ℕ → ℕ) (t₀ : List ℕ) (i : ℕ) (t : List ℕ) : Type 0 where
  pub long : length t ≡ length t₀
  pub done : (j : ℕ) → j < i → get_or t j 0 ≡ f j

module _ (f : ℕ → ℕ) where
  pub writing_none : (t : List ℕ) → Writing f t 0 t
  writing_none t = record { long = refl; done = λ j l. absurd (omega arith) }

  pub writing_more : {t₀ : List ℕ} {i : ℕ} {t : List ℕ} → Writing f t₀ i t → i < length t → Writing f t₀ (i + 1) (set t i (f i))
  writing_more {t₀} {i} {t} w l = record { long = length-set t i (f i) ∙ w.long; done = λ j m. go j m (ℕ_discrete j i) }
    where
      go : (j : ℕ) → j < i + 1 → Dec (j ≡ i) → get_or (set t i (f i)) j 0 ≡ f j
      go j m (yes e) = subst (λ (k : ℕ). get_or (set t i (f i)) k 0 ≡ f k) (sym e) (get_or-set_same t i (f i) 0 l)
      go j m (no d) = get_or-set_other t i j (f i) 0 d ∙ w.done j (omega arith)

-- where the number of lines and the roots are 0, no line is held
pub holds_none : (s t : List ℕ) → heads ≤ length t → ((j : ℕ) → j < heads → get_or t j 0 ≡ 0) → Holds s t
holds_none s t l z =
    let n : held t ≡ 0 = z 0 (omega arith) in
    record {
      room = omega arith;
      roots = λ r h. omega (arith, z (1 + r) (omega arith));
      links = λ k i h. absurd (omega arith);
      rising = λ k i h. absurd (omega arith);
      met = λ k h. absurd (omega arith);
    }
