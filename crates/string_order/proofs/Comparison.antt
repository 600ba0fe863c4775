-- How the order of two strings follows from their first bytes.
use Prim.Native.Nat.{ℕ}
use mathlib.Core.Path.{◌≡◌, refl, sym, ap, ◌∙◌, subst₂}
use mathlib.Core.Logic.{◌≢◌, inl, inr}
use mathlib.Core.List.{List, [], ◌∷◌, ◌++◌}
use Rattle.string_order.specs.Bytes as Bytes
use Rattle.string_order.proofs.Bytes.{less_distinct, less_asymmetric}
use Rattle.std.specs.declared.cmp.Ordering.{Ordering}
use Rattle.std.specs.declared.cmp.Ordering.TheVariants.{Less, Equal, Greater}
use Rattle.std.specs.Ordering.{nat_cmp}
use Rattle.std.proofs.lemmas.Cmp.{ranked}
use Rattle.string_order.specs.Ordered.{Ordered}

pub prefix_less : {xs ys vs : List ℕ} {q : ℕ} → xs ≡ [] → ys ≡ q ∷ vs → Bytes.Less xs ys
prefix_less e f = subst₂ (λ (x y : List ℕ). Bytes.Less x y) (sym e) (sym f) tt

module _ {xs ys us vs : List ℕ} {p q : ℕ} (e : xs ≡ p ∷ us) (f : ys ≡ q ∷ vs) where
  -- behind equal bytes the order is that of what follows
  pub behind_same : p ≡ q → (r : Ordering) → Ordered us vs r → Ordered xs ys r
  behind_same g r h = subst₂ (λ (x y : List ℕ). Ordered x y r) (sym e) (ap (λ (b : ℕ). b ∷ vs) g ∙ sym f) (both r h)
    where
      both : (r : Ordering) → Ordered us vs r → Ordered (p ∷ us) (p ∷ vs) r
      both Less h = inr (refl, h)
      both Equal h = ap (λ (l : List ℕ). p ∷ l) h
      both Greater h = inr (refl, h)

-- behind the same bytes too
pub behind_common : (ps us vs : List ℕ) (r : Ordering) → Ordered us vs r → Ordered (ps ++ us) (ps ++ vs) r
behind_common [] us vs r h = h
behind_common (p ∷ ps) us vs r h = behind_same refl refl refl r (behind_common ps us vs r h)

-- bytes that are not the same decide
pub first_bytes : (a b : ℕ) (bs cs : List ℕ) (r : Ordering) → r ≡ nat_cmp a b → a ≢ b → Ordered (a ∷ bs) (b ∷ cs) r
first_bytes a b bs cs Less e n = inl (ranked a b Less e)
first_bytes a b bs cs Equal e n = absurd (n (ranked a b Equal e))
first_bytes a b bs cs Greater e n = inl (ranked a b Greater e)

-- ── The three answers exclude each other ──
pub order_unique : (bs cs : List ℕ) (a b : Ordering) → Ordered bs cs a → Ordered bs cs b → a ≡ b
order_unique bs cs Less Less h k = refl
order_unique bs cs Less Equal h k = absurd (less_distinct bs cs h k)
order_unique bs cs Less Greater h k = absurd (less_asymmetric bs cs h k)
order_unique bs cs Equal Less h k = absurd (less_distinct bs cs k h)
order_unique bs cs Equal Equal h k = refl
order_unique bs cs Equal Greater h k = absurd (less_distinct cs bs k (sym h))
order_unique bs cs Greater Less h k = absurd (less_asymmetric bs cs k h)
order_unique bs cs Greater Equal h k = absurd (less_distinct cs bs h (sym k))
order_unique bs cs Greater Greater h k = refl
