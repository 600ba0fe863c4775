-- Tests that compute, and equivalences of what they tell.
use Prim.Native.Nat.{ℕ, ◌≤◌, ◌<◌}
use mathlib.Core.Path.{◌≡◌, subst}
use mathlib.Core.Logic.{◌⊎◌, inl, inr, ◌↔◌}
use mathlib.Core.Bool.{Bool, true, false}
use lib.Dec.{T, leb, ltb, eqb, leb→le, le→leb, ltb→lt, lt→ltb, eqb→eq, eqb_refl}
use Rattle.xpath.specs.Booleans.{both, either}

-- ── Tests ──
abbrev pub neg : Bool → Bool
neg true = false
neg false = true

pub T-both : (a b : Bool) → T (both a b) ↔ (T a × T b)
T-both true b = (λ h. (tt, h), λ h. h.1)
T-both false b = (λ h. absurd h, λ h. absurd h.0)

pub T-either : (a b : Bool) → T (either a b) ↔ (T a ⊎ T b)
T-either true b = (λ h. inl tt, λ h. tt)
T-either false b = (λ h. inr h, out)
  where
    out : ⊥ ⊎ T b → T b
    out (inl h) = absurd h
    out (inr h) = h

pub T-neg : (a : Bool) → T (neg a) ↔ (¬ T a)
T-neg true = (λ h. absurd h, λ f. f tt)
T-neg false = (λ h f. f, λ f. tt)

pub eqb_iff : (m n : ℕ) → T (eqb m n) ↔ (m ≡ n)
eqb_iff m n = (eqb→eq m n, λ e. subst (λ x. T (eqb m x)) e (eqb_refl m))

pub leb_iff : (m n : ℕ) → T (leb m n) ↔ (m ≤ n)
leb_iff m n = (leb→le m n, le→leb m n)

pub ltb_iff : (m n : ℕ) → T (ltb m n) ↔ (m < n)
ltb_iff m n = (ltb→lt m n, lt→ltb m n)

-- ── Equivalences ──
pub trans : {A B C : Type 0} → A ↔ B → B ↔ C → A ↔ C
trans f g = (λ a. g.0 (f.0 a), λ c. f.1 (g.1 c))

pub swap : {A B : Type 0} → A ↔ B → B ↔ A
swap f = (f.1, f.0)

pub same : {A : Type 0} → A ↔ A
same = (λ a. a, λ a. a)

pub ×-iff : {A B C D : Type 0} → A ↔ C → B ↔ D → (A × B) ↔ (C × D)
×-iff f g = (λ h. (f.0 h.0, g.0 h.1), λ h. (f.1 h.0, g.1 h.1))

pub ⊎-iff : {A B C D : Type 0} → A ↔ C → B ↔ D → (A ⊎ B) ↔ (C ⊎ D)
⊎-iff {A} {B} {C} {D} f g = (to, from)
  where
    to : A ⊎ B → C ⊎ D
    to (inl a) = inl (f.0 a)
    to (inr b) = inr (g.0 b)

    from : C ⊎ D → A ⊎ B
    from (inl c) = inl (f.1 c)
    from (inr d) = inr (g.1 d)

pub ¬-iff : {A B : Type 0} → A ↔ B → (¬ A) ↔ (¬ B)
¬-iff f = (λ g b. g (f.1 b), λ g a. g (f.0 a))
