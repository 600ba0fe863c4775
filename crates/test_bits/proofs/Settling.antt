-- A pass over the nodes that writes bit k of each.
use Prim.Native.Nat.{ℕ, suc, ◌+◌, ◌≤◌, ◌<◌}
use mathlib.Core.Path.{◌≡◌, refl, sym, ◌∙◌, subst}
use mathlib.Core.Logic.{◌↔◌}
use mathlib.Core.Bool.{Bool, true}
use mathlib.Core.List.{List}
use native.Mathlib.Omega.{arith}
use native.Mathlib.Decide.{ℕ_discrete}
use Rattle.layout.specs.Table.{TESTS}
use Rattle.layout.specs.Words.{Within}
use Rattle.layout.proofs.Frames.{within_none, within_then}
use Rattle.test_bits.specs.Columns.{test_words, held, Settled, Noted}

-- bit k is written for the nodes below i, and all else is as before
pub record Settling (n k : ℕ) (A : ℕ → Type 0) (i : ℕ) (t t' : List ℕ) : Type 0 where
  pub done : (v : ℕ) → v < i → (held t' n k v ≡ true) ↔ A v
  pub others : (j v : ℕ) → j < 64 → v < n → ¬ ((j ≡ k) × (v < i)) → held t' n j v ≡ held t n j v
  pub within : Within n TESTS (TESTS + test_words) t t'

pub settling_none : (n k : ℕ) (A : ℕ → Type 0) (t : List ℕ) → Settling n k A 0 t t
settling_none n k A t =
    record {
      done = λ v r. absurd (omega arith);
      others = λ j v l r a. refl;
      within = within_none t;
    }

-- the node at hand has the bits that it had before the pass
pub settling_here : {n k : ℕ} {A : ℕ → Type 0} {i : ℕ} {t t' : List ℕ} → Settling n k A i t t' → (j : ℕ) → j < 64 → i < n → held t' n j i ≡ held t n j i
settling_here {i} g j l r = g.others j i l r (λ a. let z = a.1 in omega arith)

pub settling_step : {n k : ℕ} {A : ℕ → Type 0} {i : ℕ} {b : Bool} {t t₁ t₂ : List ℕ} → k < 64 → i < n
    → Settling n k A i t t₁ → (b ≡ true) ↔ A i → Noted n k i b t₁ t₂ → Settling n k A (suc i) t t₂
settling_step {n} {k} {A} {i} {b} {t} {t₁} {t₂} h l g f p =
    record {
      done = λ v r. go v r (ℕ_discrete v i);
      others = λ j v m r a. p.others j v m r (λ z. let y = z.1 in a (z.0, omega arith)) ∙ g.others j v m r (λ z. let y = z.1 in a (z.0, omega arith));
      within = within_then g.within p.within;
    }
  where
    go : (v : ℕ) → v < suc i → Dec (v ≡ i) → (held t₂ n k v ≡ true) ↔ A v
    go v r (yes e) = subst (λ u. (held t₂ n k u ≡ true) ↔ A u) (sym e) (subst (λ x. (x ≡ true) ↔ A i) (sym p.here) f)
    go v r (no d) = subst (λ x. (x ≡ true) ↔ A v) (sym (p.others k v h (omega arith) (λ z. d z.1))) (g.done v (omega arith))

pub settling_all : {n k : ℕ} {A : ℕ → Type 0} {i : ℕ} {t t' : List ℕ} → n ≤ i → Settling n k A i t t' → Settled n k A t t'
settling_all l g =
    record {
      done = λ v r. g.done v (omega arith);
      others = λ j v m d r. g.others j v m r (λ z. d z.0);
      within = g.within;
    }
