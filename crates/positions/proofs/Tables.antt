-- Which steps may begin, stop and follow is decided by computation.
use Prim.Native.Nat.{ℕ, ◌+◌}
use mathlib.Core.Logic.{◌⊎◌, inl, inr}
use native.Mathlib.Decide.{ℕ_discrete}
use Rattle.xpath.specs.Syntax.{XPath, empty, one, seq, union, star, size}
use Rattle.positions.specs.Glushkov.{Nullable, Begins, Stops, Next}

abbrev pub dec-⊎ : {A B : Type 0} → Dec A → Dec B → Dec (A ⊎ B)
dec-⊎ (yes a) e = yes (inl a)
dec-⊎ (no f) (yes b) = yes (inr b)
dec-⊎ {A} {B} (no f) (no g) = no neither
  where
    neither : A ⊎ B → ⊥
    neither (inl a) = f a
    neither (inr b) = g b

abbrev pub dec-× : {A B : Type 0} → Dec A → Dec B → Dec (A × B)
dec-× (yes a) (yes b) = yes (a, b)
dec-× (yes a) (no g) = no (λ h. g h.1)
dec-× (no f) e = no (λ h. f h.0)

unfoldable pub dec_null : (P : XPath) → Dec (Nullable P)
dec_null empty = yes tt
dec_null (one s) = no (λ h. h)
dec_null (seq P Q) = dec-× (dec_null P) (dec_null Q)
dec_null (union P Q) = dec-⊎ (dec_null P) (dec_null Q)
dec_null (star P) = yes tt

unfoldable pub dec_begins : (P : XPath) (b j : ℕ) → Dec (Begins P b j)
dec_begins empty b j = no (λ h. h)
dec_begins (one s) b j = ℕ_discrete j b
dec_begins (seq P Q) b j = dec-⊎ (dec_begins P b j) (dec-× (dec_null P) (dec_begins Q (b + size P) j))
dec_begins (union P Q) b j = dec-⊎ (dec_begins P b j) (dec_begins Q (b + size P) j)
dec_begins (star P) b j = dec_begins P b j

unfoldable pub dec_stops : (P : XPath) (b j : ℕ) → Dec (Stops P b j)
dec_stops empty b j = no (λ h. h)
dec_stops (one s) b j = ℕ_discrete j b
dec_stops (seq P Q) b j = dec-⊎ (dec_stops Q (b + size P) j) (dec-× (dec_null Q) (dec_stops P b j))
dec_stops (union P Q) b j = dec-⊎ (dec_stops P b j) (dec_stops Q (b + size P) j)
dec_stops (star P) b j = dec_stops P b j

unfoldable pub dec_next : (P : XPath) (b i j : ℕ) → Dec (Next P b i j)
dec_next empty b i j = no (λ h. h)
dec_next (one s) b i j = no (λ h. h)
dec_next (seq P Q) b i j = dec-⊎ (dec_next P b i j) (dec-⊎ (dec_next Q (b + size P) i j) (dec-× (dec_stops P b i) (dec_begins Q (b + size P) j)))
dec_next (union P Q) b i j = dec-⊎ (dec_next P b i j) (dec_next Q (b + size P) i j)
dec_next (star P) b i j = dec-⊎ (dec_next P b i j) (dec-× (dec_stops P b i) (dec_begins P b j))
