-- The loop that answers node after node.
use Prim.Native.Nat.{ℕ, ◌+◌, ◌≤◌, ◌<◌}
use mathlib.Core.Path.{◌≡◌, refl, sym, ◌∙◌, subst}
use mathlib.Core.Logic.{◌⊎◌, inl, inr, ⊎_map, ◌↔◌}
use mathlib.Core.Bool.{Bool, true, false}
use mathlib.Core.List.{List, [], ◌∷◌}
use lib.ListN.{length}
use native.Mathlib.Decide.{ℕ_discrete}
use native.Mathlib.Omega.{arith}
use Rattle.bits.specs.Sets.{one}
use Rattle.layout.specs.Part.{ANSWER}
use Rattle.layout.specs.Words.{cell, word, Wrote}
use Rattle.rank_sets.specs.Ends.{Held, Steady}
use Rattle.std.proofs.lemmas.Bool.{iff_false}
use Rattle.plain.specs.Plain.{Answered}

-- a word that answers whether A holds
abbrev Answer : Type 0 → ℕ → Type 0
Answer A x = (A × (x ≡ 1)) ⊎ ((¬ A) × (x ≡ 0))

-- the nodes below i are answered
pub record Answers (n : ℕ) (A : ℕ → Type 0) (i : ℕ) (p : List ℕ) : Type 0 where
  pub done : (v : ℕ) → v < i → Answer (A v) (word p n ANSWER v)

pub answers_none : (n : ℕ) (A : ℕ → Type 0) (p : List ℕ) → Answers n A 0 p
answers_none n A p = record { done = λ v l. absurd (omega arith) }

answer : {A : Type 0} (b : Bool) → (b ≡ true) ↔ A → Answer A (one b)
answer true t = inl (t.0 refl, refl)
answer false t = inr (iff_false t refl, refl)

pub answers_step : {n i : ℕ} {A : ℕ → Type 0} {p p₁ p₂ : List ℕ} (b : Bool) → i < n → Answers n A i p → Steady n p p₁ → (b ≡ true) ↔ A i
    → Wrote ((cell n ANSWER i, one b) ∷ []) p₁ p₂ → Answers n A (i + 1) p₂
answers_step {n} {i} {A} {p} {p₁} {p₂} b l g s t w = record { done = λ v r. go v r (ℕ_discrete v i) }
  where
    go : (v : ℕ) → v < i + 1 → Dec (v ≡ i) → Answer (A v) (word p₂ n ANSWER v)
    go v r (yes e) = subst (λ x. Answer (A x) (word p₂ n ANSWER x)) (sym e) (subst (λ y. Answer (A i) y) (sym w.here.0) (answer b t))
    go v r (no f) =
        subst (λ y. Answer (A v) y) (sym (w.other (cell n ANSWER v) (omega arith, tt) ∙ s.answers.same (cell n ANSWER v) (omega arith))) (g.done v (omega arith))

pub answers_all : {n i : ℕ} {A : ℕ → Type 0} {p₀ p : List ℕ} → n ≤ i → Held n p₀ p → Answers n A i p → Answered n A p₀ p
answers_all l h g = record { long = h.middle.long; answers = λ v r. g.done v (omega arith) }

-- the same answers, said otherwise, of a part that was as long
pub answered_from : {n : ℕ} {A B : ℕ → Type 0} {p p₁ p₂ : List ℕ} → length p₁ ≡ length p → ((v : ℕ) → v < n → A v ↔ B v) → Answered n A p₁ p₂ → Answered n B p p₂
answered_from e same a = record { long = a.long ∙ e; answers = λ v l. ⊎_map (λ (h, z). ((same v l).0 h, z)) (λ (h, z). (λ b. h ((same v l).1 b), z)) (a.answers v l) }
