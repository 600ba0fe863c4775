-- What the bit that is written says of the node: the connectives of tests as those of bits.
use Prim.Native.Nat.{ℕ}
use mathlib.Core.Path.{◌≡◌, refl, sym, ◌∙◌, subst, subst₂}
use mathlib.Core.Logic.{◌↔◌, ◌⊎◌, inl, inr, ⊎_elim}
use mathlib.Core.Bool.{Bool, true, false, not, ◌&&◌, ◌||◌, false≢true}
use lib.Dec.{eqb}
use borrow.Author.Tests.{eq-eqb, eqb-true}

pub told : {x a : Bool} → x ≡ a → (x ≡ true) ↔ (a ≡ true)
told e = (λ h. sym e ∙ h, λ h. e ∙ h)

pub told_not : {x a : Bool} → x ≡ a → (not x ≡ true) ↔ ¬ (a ≡ true)
told_not {x} e = subst (λ b. (not x ≡ true) ↔ ¬ (b ≡ true)) e (go x)
  where
    go : (b : Bool) → (not b ≡ true) ↔ ¬ (b ≡ true)
    go true = (λ h. absurd (false≢true h), λ h. absurd (h refl))
    go false = (λ h. false≢true, λ h. refl)

pub told_and : {x y a b : Bool} → x ≡ a → y ≡ b → (x && y ≡ true) ↔ ((a ≡ true) × (b ≡ true))
told_and {x} {y} e f = subst₂ (λ p q. (x && y ≡ true) ↔ ((p ≡ true) × (q ≡ true))) e f (go x)
  where
    go : (p : Bool) → (p && y ≡ true) ↔ ((p ≡ true) × (y ≡ true))
    go true = (λ h. (refl, h), λ h. h.1)
    go false = (λ h. absurd (false≢true h), λ h. h.0)

pub told_or : {x y a b : Bool} → x ≡ a → y ≡ b → (x || y ≡ true) ↔ ((a ≡ true) ⊎ (b ≡ true))
told_or {x} {y} e f = subst₂ (λ p q. (x || y ≡ true) ↔ ((p ≡ true) ⊎ (q ≡ true))) e f (go x)
  where
    go : (p : Bool) → (p || y ≡ true) ↔ ((p ≡ true) ⊎ (y ≡ true))
    go true = (λ h. inl refl, λ h. refl)
    go false = (λ h. inr h, λ h. ⊎_elim (λ z. absurd (false≢true z)) (λ z. z) h)

pub told_one : {x y : ℕ} → x ≡ y → (eqb x 1 ≡ true) ↔ (y ≡ 1)
told_one {x} e = subst (λ z. (eqb x 1 ≡ true) ↔ (z ≡ 1)) e (eqb-true x 1, eq-eqb x 1)
