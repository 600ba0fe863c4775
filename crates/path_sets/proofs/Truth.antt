-- Flags that tell facts: or tells one of two, and tells both.
use mathlib.Core.Path.{◌≡◌, refl, sym, ◌∙◌}
use mathlib.Core.Bool.{Bool, true, false}
use mathlib.Core.Logic.{◌⊎◌, inl, inr, ◌↔◌}
use Rattle.rule_spec.proofs.Bytes.{clash}
use Rattle.bits.specs.Sets.{or, and}

module _ {A B : Type 0} where
  or_tells : (a b : Bool) → (a ≡ true) ↔ A → (b ≡ true) ↔ B → (or a b ≡ true) ↔ (A ⊎ B)
  or_tells true b f g = (λ e. inl (f.0 refl), λ h. refl)
  or_tells false b f g = (λ e. inr (g.0 e), from)
    where
      from : A ⊎ B → b ≡ true
      from (inl h) = clash (f.1 h)
      from (inr h) = g.1 h

  and_tells : (a b : Bool) → (a ≡ true) ↔ A → (b ≡ true) ↔ B → (and a b ≡ true) ↔ (A × B)
  and_tells true b f g = (λ e. (f.0 refl, g.0 e), λ h. g.1 h.1)
  and_tells false b f g = (λ e. clash e, λ h. f.1 h.0)

  -- the same of a flag that equals it
  pub tells_or : (a b : Bool) → (a ≡ true) ↔ A → (b ≡ true) ↔ B → (r : Bool) → r ≡ or a b → (r ≡ true) ↔ (A ⊎ B)
  tells_or a b f g r e = let t = or_tells a b f g in (λ h. t.0 (sym e ∙ h), λ h. e ∙ t.1 h)

  pub tells_and : (a b : Bool) → (a ≡ true) ↔ A → (b ≡ true) ↔ B → (r : Bool) → r ≡ and a b → (r ≡ true) ↔ (A × B)
  tells_and a b f g r e = let t = and_tells a b f g in (λ h. t.0 (sym e ∙ h), λ h. e ∙ t.1 h)

pub tells_none : (r : Bool) → r ≡ false → (r ≡ true) ↔ ⊥
tells_none r e = (λ h. clash (sym e ∙ h), λ h. absurd h)

-- what is told of one relation after another
pub tells_more : {X Y Z M N : Type 0} → Y ↔ (X ⊎ M) → Z ↔ (Y ⊎ N) → Z ↔ (X ⊎ (M ⊎ N))
tells_more {X} {Y} {Z} {M} {N} f g = (λ z. to (g.0 z), from)
  where
    onward : X ⊎ M → X ⊎ (M ⊎ N)
    onward (inl x) = inl x
    onward (inr m) = inr (inl m)

    to : Y ⊎ N → X ⊎ (M ⊎ N)
    to (inl y) = onward (f.0 y)
    to (inr n) = inr (inr n)

    from : X ⊎ (M ⊎ N) → Z
    from (inl x) = g.1 (inl (f.1 (inl x)))
    from (inr (inl m)) = g.1 (inl (f.1 (inr m)))
    from (inr (inr n)) = g.1 (inr n)

pub through : {X Y Z : Type 0} → Z ↔ Y → X ↔ Y → Z ↔ X
through f g = (λ z. g.1 (f.0 z), λ x. f.1 (g.0 x))
