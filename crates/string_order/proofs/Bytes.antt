-- The byte order of strings is a strict total order, and can be tested.
use Prim.Native.Nat.{ℕ, ◌<◌}
use mathlib.Core.Path.{◌≡◌, refl, ◌∙◌, subst}
use mathlib.Core.Logic.{◌⊎◌, inl, inr, ◌≢◌, ◌↔◌}
use mathlib.Core.List.{List, [], ◌∷◌}
use native.Mathlib.Omega.{arith}
use native.Mathlib.Decide.{dec_lt}
use lib.Dec.{T, ltb, eqb}
use Rattle.xpath.specs.Booleans.{both}
use Rattle.xpath.proofs.Booleans.{T-both, T-either, eqb_iff, ltb_iff, ⊎-iff, ×-iff, trans, same}
use Rattle.string_order.specs.Bytes.{Less, lessb}

pub less_irreflexive : (xs : List ℕ) → ¬ Less xs xs
less_irreflexive [] h = h
less_irreflexive (x ∷ xs) (inl h) = omega arith
less_irreflexive (x ∷ xs) (inr h) = less_irreflexive xs h.1

pub less_distinct : (xs ys : List ℕ) → Less xs ys → xs ≢ ys
less_distinct xs ys h e = less_irreflexive ys (subst (λ zs. Less zs ys) e h)

pub less_transitive : (xs ys zs : List ℕ) → Less xs ys → Less ys zs → Less xs zs
less_transitive [] [] zs h k = absurd h
less_transitive [] (y ∷ ys) [] h k = k
less_transitive [] (y ∷ ys) (z ∷ zs) h k = tt
less_transitive (x ∷ xs) [] zs h k = absurd h
less_transitive (x ∷ xs) (y ∷ ys) [] h k = k
less_transitive (x ∷ xs) (y ∷ ys) (z ∷ zs) (inl h) (inl k) = inl (omega arith)
less_transitive (x ∷ xs) (y ∷ ys) (z ∷ zs) (inl h) (inr k) = let e = k.0 in inl (omega arith)
less_transitive (x ∷ xs) (y ∷ ys) (z ∷ zs) (inr h) (inl k) = let e = h.0 in inl (omega arith)
less_transitive (x ∷ xs) (y ∷ ys) (z ∷ zs) (inr h) (inr k) = inr (h.0 ∙ k.0, less_transitive xs ys zs h.1 k.1)

pub less_asymmetric : (xs ys : List ℕ) → Less xs ys → ¬ Less ys xs
less_asymmetric xs ys h k = less_irreflexive xs (less_transitive xs ys xs h k)

-- one of the three holds, and by the laws above no two of them
pub less_trichotomous : (xs ys : List ℕ) → Less xs ys ⊎ ((xs ≡ ys) ⊎ Less ys xs)
less_trichotomous [] [] = inr (inl refl)
less_trichotomous [] (y ∷ ys) = inl tt
less_trichotomous (x ∷ xs) [] = inr (inr tt)
less_trichotomous (x ∷ xs) (y ∷ ys) = go (dec_lt x y) (dec_lt y x) (less_trichotomous xs ys)
  where
    same : (h : ¬ (x < y)) (k : ¬ (y < x)) → x ≡ y
    same h k = omega arith

    go : Dec (x < y) → Dec (y < x) → Less xs ys ⊎ ((xs ≡ ys) ⊎ Less ys xs)
        → Less (x ∷ xs) (y ∷ ys) ⊎ (((x ∷ xs) ≡ (y ∷ ys)) ⊎ Less (y ∷ ys) (x ∷ xs))
    go (yes h) d r = inl (inl h)
    go (no h) (yes k) r = inr (inr (inl k))
    go (no h) (no k) (inl r) = inl (inr (same h k, r))
    go (no h) (no k) (inr (inl e)) = let f = same h k in inr (inl (cc))
    go (no h) (no k) (inr (inr r)) = inr (inr (inr (omega arith, r)))

pub less_iff : (xs ys : List ℕ) → T (lessb xs ys) ↔ Less xs ys
less_iff [] [] = same
less_iff [] (y ∷ ys) = same
less_iff (x ∷ xs) [] = same
less_iff (x ∷ xs) (y ∷ ys) =
    trans (T-either (ltb x y) (both (eqb x y) (lessb xs ys)))
    (⊎-iff (ltb_iff x y) (trans (T-both (eqb x y) (lessb xs ys)) (×-iff (eqb_iff x y) (less_iff xs ys))))
