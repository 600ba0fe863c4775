-- Laws of All, Occurs and Distinct, told by the entries of a list.
use Prim.Native.Nat.{ℕ, zero, suc, ◌<◌}
use mathlib.Core.Path.{◌≡◌, refl, sym}
use mathlib.Core.Logic.{inl, inr, ◌≢◌}
use mathlib.Core.List.{List, [], ◌∷◌}
use lib.ListN.{length, get_or}
use native.Mathlib.Omega.{arith}
use Rattle.lists.specs.Lists.{All, Occurs, Distinct}

module _ {A : Type 0} (d : A) where
  -- what holds at each index holds of all of a list
  pub all_at : (B : A → Type 0) (xs : List A) → ((i : ℕ) → i < length xs → B (get_or xs i d)) → All B xs
  all_at B [] f = tt
  all_at B (x ∷ xs) f = (f 0 (omega arith), all_at B xs (λ i l. f (suc i) (omega arith)))

  pub at_all : (B : A → Type 0) (xs : List A) → All B xs → (i : ℕ) → i < length xs → B (get_or xs i d)
  at_all B [] h i l = absurd (omega arith)
  at_all B (x ∷ xs) h zero l = h.0
  at_all B (x ∷ xs) h (suc i) l = at_all B xs h.1 i (omega arith)

  pub occurs_at : (xs : List A) (i : ℕ) → i < length xs → Occurs (get_or xs i d) xs
  occurs_at [] i l = absurd (omega arith)
  occurs_at (x ∷ xs) zero l = inl refl
  occurs_at (x ∷ xs) (suc i) l = inr (occurs_at xs i (omega arith))

  pub at_occurs : (a : A) (xs : List A) → Occurs a xs → (i : ℕ) × (i < length xs) × (get_or xs i d ≡ a)
  at_occurs a [] o = absurd o
  at_occurs a (x ∷ xs) (inl e) = (0, omega arith, sym e)
  at_occurs a (x ∷ xs) (inr o) = let (i, l, e) = at_occurs a xs o in (suc i, omega arith, e)

  -- no two entries are the same
  pub distinct_at : (xs : List A) → ((i j : ℕ) → i < j → j < length xs → get_or xs i d ≢ get_or xs j d) → Distinct xs
  distinct_at [] f = tt
  distinct_at (x ∷ xs) f =
      (λ o. let (i, l, e) = at_occurs x xs o in f 0 (suc i) (omega arith) (omega arith) (sym e), distinct_at xs (λ i j a b. f (suc i) (suc j) (omega arith) (omega arith)))
