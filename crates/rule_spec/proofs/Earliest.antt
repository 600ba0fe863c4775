-- Of the refusals in a list the one that the written order puts first, by a test.
use mathlib.Core.Path.{◌≡◌, refl, sym, ◌∙◌, subst}
use mathlib.Core.Logic.{inl, inr, ◌↔◌, ⊎_elim}
use mathlib.Core.Bool.{Bool, true, false}
use mathlib.Core.Option.{Option, none, some}
use mathlib.Core.List.{List, [], ◌∷◌}
use lib.Dec.{eqb, ltb}
use Rattle.lists.specs.Lists.{Occurs}
use Rattle.refusals.specs.Refusals.{Refusal, number, place, stage, Earlier, First}
use Rattle.refusals.proofs.Refusals.{earlier_irrefl, earlier_trans}
use Rattle.rule_spec.specs.Bytes.{choose, both, either}
use Rattle.rule_spec.proofs.Bytes.{both_iff, either_iff, lt_iff, eq_iff, clash}

unfoldable pub earlier : Refusal → Refusal → Bool
earlier a b =
    either (ltb (stage a) (stage b))
    (both (eqb (stage a) (stage b)) (either (ltb (place a) (place b)) (both (eqb (place a) (place b)) (ltb (number a) (number b)))))

pub earlier_iff : (a b : Refusal) → (earlier a b ≡ true) ↔ Earlier a b
unfolding earlier
earlier_iff a b =
    either_iff _ _ (lt_iff (stage a) (stage b))
    (both_iff _ _ (eq_iff (stage a) (stage b))
    (either_iff _ _ (lt_iff (place a) (place b)) (both_iff _ _ (eq_iff (place a) (place b)) (lt_iff (number a) (number b)))))

abbrev sooner : Refusal → Option Refusal → Refusal
sooner x none = x
sooner x (some r) = choose (earlier x r) x r

unfoldable pub earliest : List Refusal → Option Refusal
unfolding earlier
earliest [] = none
earliest (x ∷ xs) = some (sooner x (earliest xs))

abbrev pub Earliest : List Refusal → Option Refusal → Type 0
Earliest xs none = (r : Refusal) → ¬ Occurs r xs
Earliest xs (some r) = First (λ q. Occurs q xs) r

pub earliest_first : (xs : List Refusal) → Earliest xs (earliest xs)
unfolding earliest
earliest_first [] = λ r o. o
earliest_first (x ∷ xs) = go (earliest xs) (earliest_first xs)
  where
    itself : (q : Refusal) → q ≡ x → ¬ Earlier q x
    itself q e l = earlier_irrefl x (subst (λ y. Earlier y x) e l)

    go : (y : Option Refusal) → Earliest xs y → First (λ q. Occurs q (x ∷ xs)) (sooner x y)
    go none f = record { applies = inl refl; first = λ q o l. ⊎_elim (λ e. itself q e l) (f q) o }
    go (some r) f = by (earlier x r) refl
      where
        by : (t : Bool) → earlier x r ≡ t → First (λ q. Occurs q (x ∷ xs)) (choose t x r)
        by true e = record {
          applies = inl refl;
          first = λ q o l. ⊎_elim (λ d. itself q d l) (λ i. f.first q i (earlier_trans q x r l ((earlier_iff x r).0 e))) o;
        }
        by false e = record {
          applies = inr f.applies;
          first = λ q o l. ⊎_elim (λ d. clash (sym e ∙ (earlier_iff x r).1 (subst (λ y. Earlier y r) d l))) (λ i. f.first q i l) o;
        }
