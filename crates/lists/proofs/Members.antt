-- A list without one of its members.
use mathlib.Core.Path.{◌≡◌, sym, ap, subst}
use mathlib.Core.Logic.{◌⊎◌, inl, inr, ⊎_map, ⊎_elim, ◌↔◌}
use mathlib.Core.List.{List, [], ◌∷◌, ◌++◌}
use Rattle.lists.specs.Lists.{Occurs, Distinct}
use Rattle.lists.proofs.Lists.{occurs_left, occurs_right, occurs_append}

module _ {A : Type 0} where
  -- the list before one of its members, and behind it
  pub record Around (a : A) (xs : List A) : Type 0 where
    pub front : List A
    pub rear : List A
    pub whole : xs ≡ front ++ a ∷ rear

  pub around : (a : A) (xs : List A) → Occurs a xs → Around a xs
  around a [] h = absurd h
  around a (x ∷ xs) (inl e) = record { front = []; rear = xs; whole = ap (λ y. y ∷ xs) (sym e) }
  around a (x ∷ xs) (inr h) = let s = around a xs h in record { front = x ∷ s.front; rear = s.rear; whole = ap (λ ys. x ∷ ys) s.whole }

  module _ (a : A) (front rear : List A) where
    pub occurs_between : (b : A) → Occurs b (front ++ a ∷ rear) → (b ≡ a) ⊎ Occurs b (front ++ rear)
    occurs_between b h = ⊎_elim (λ o. inr (occurs_left b front rear o)) (λ o. ⊎_map (λ e. e) (occurs_right b front rear) o) (occurs_append b front (a ∷ rear) h)

    pub between_occurs : (b : A) → Occurs b (front ++ rear) → Occurs b (front ++ a ∷ rear)
    between_occurs b h = ⊎_elim (occurs_left b front (a ∷ rear)) (λ o. occurs_right b front (a ∷ rear) (inr o)) (occurs_append b front rear h)

  pub distinct_between : (a : A) (front rear : List A) → Distinct (front ++ a ∷ rear) → (¬ Occurs a (front ++ rear)) × Distinct (front ++ rear)
  distinct_between a [] rear d = d
  distinct_between a (x ∷ front) rear (n, d) =
      let (m, c) = distinct_between a front rear d in (
        (λ o. ⊎_elim (λ e. n (occurs_right x front (a ∷ rear) (inl (sym e)))) m o),
        ((λ o. n (between_occurs a front rear x o)), c),
      )

  -- the other members of two lists that have the same ones
  pub same_between : (a : A) (xs front rear : List A) → Distinct (a ∷ xs) → Distinct (front ++ a ∷ rear)
      → ((b : A) → Occurs b (a ∷ xs) ↔ Occurs b (front ++ a ∷ rear)) → (b : A) → Occurs b xs ↔ Occurs b (front ++ rear)
  same_between a xs front rear (n, d) c same b = (
    (λ o. ⊎_elim (λ e. absurd (n (subst (λ z. Occurs z xs) e o))) (λ p. p) (occurs_between a front rear b ((same b).0 (inr o)))),
    λ o. ⊎_elim (λ e. absurd ((distinct_between a front rear c).0 (subst (λ z. Occurs z (front ++ rear)) e o))) (λ p. p) ((same b).1 (between_occurs a front rear b o)),
  )
