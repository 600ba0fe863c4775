-- Searches that end: for a number below a bound, for the least number, in a text.
use Prim.Native.Nat.{ℕ, zero, suc, ◌≤◌, ◌<◌, suc-le-suc}
use mathlib.Core.Path.{◌≡◌, refl, ap₂, subst}
use mathlib.Core.Logic.Dec
use mathlib.Core.List.{List, [], ◌∷◌, ◌++◌}
use native.Mathlib.Omega.{arith}
use native.Mathlib.Decide.{ℕ_discrete, dec_le, map_dec}
use Rattle.lists.proofs.Decide.{dec_or}
use Rattle.lists.specs.Text.{Printable, NameByte}

-- ── Numbers ──
pub search_below : (n : ℕ) (A : ℕ → Type 0) → ((i : ℕ) → Dec (A i)) → Dec ((i : ℕ) × (i < n) × A i)
search_below zero A d = no (λ h. let r = h.1 in omega arith)
search_below (suc n) A d = go (search_below n A d) (d n)
  where
    go : Dec ((i : ℕ) × (i < n) × A i) → Dec (A n) → Dec ((i : ℕ) × (i < suc n) × A i)
    go (yes (i, r, a)) e = yes (i, (omega arith), a)
    go (no f) (yes a) = yes (n, (omega arith), a)
    go (no f) (no g) = no (λ h. neither h.0 h.1 h.2 (ℕ_discrete h.0 n))
      where
        neither : (i : ℕ) → i < suc n → A i → Dec (i ≡ n) → ⊥
        neither i r a (yes e) = g (subst A e a)
        neither i r a (no e) = f (i, (omega arith), a)

pub least : (n : ℕ) (A : ℕ → Type 0) → ((i : ℕ) → Dec (A i)) → A n → (m : ℕ) × A m × ((i : ℕ) → A i → m ≤ i)
least zero A d a = (0, a, λ i h. omega arith)
least (suc n) A d a = go (d 0) (least n (λ i. A (suc i)) (λ i. d (suc i)) a)
  where
    go : Dec (A 0) → (m : ℕ) × A (suc m) × ((i : ℕ) → A (suc i) → m ≤ i) → (m : ℕ) × A m × ((i : ℕ) → A i → m ≤ i)
    go (yes h) r = (0, h, λ i h. omega arith)
    go (no f) (m, h, l) = (suc m, h, λ i k. low i k)
      where
        low : (i : ℕ) → A i → suc m ≤ i
        low zero k = absurd (f k)
        low (suc i) k = suc-le-suc (l i k)

-- ── Texts ──
pub dec_between : (lo hi b : ℕ) → Dec ((lo ≤ b) × (b ≤ hi))
dec_between lo hi b = Dec.and (dec_le lo b) (dec_le b hi)

pub dec_printable : (b : ℕ) → Dec (Printable b)
dec_printable b = dec_between 0x20 0x7e b

pub dec_name_byte : (b : ℕ) → Dec (NameByte b)
dec_name_byte b = dec_or (dec_between 97 122 b) (dec_or (dec_between 48 57 b) (ℕ_discrete b 45))

-- s begins with l
pub dec_begins : (l s : List ℕ) → Dec ((r : List ℕ) × (s ≡ l ++ r))
dec_begins [] s = yes (s, refl)
dec_begins (c ∷ l) [] = no (λ h. let e = h.1 in let z : ◌≡◌ {A = ℕ} 0 1 = cc in omega arith)
dec_begins (c ∷ l) (b ∷ s) =
    map_dec {A = (b ≡ c) × ((r : List ℕ) × (s ≡ l ++ r))} (λ h. (h.1.0, ap₂ {C = List ℕ} (λ x xs. x ∷ xs) h.0 h.1.1))
    (λ h. let e = h.1 in (cc, (h.0, cc)))
    (Dec.and (ℕ_discrete b c) (dec_begins l s))
