-- What is told of a relation by what it was before.
use Prim.Native.Nat.{ℕ, ◌<◌}
use mathlib.Core.Path.{◌≡◌, refl, sym, ap, ◌∙◌}
use mathlib.Core.Bool.{Bool, true, false}
use mathlib.Core.Logic.{◌⊎◌, inl, inr, ◌↔◌}
use mathlib.Core.List.{List, []}
use lib.ListN.{get_or, replicate, get_or-replicate}
use Rattle.rule_spec.proofs.Bytes.{clash}
use Rattle.bits.specs.Sets.{bit, or, and}
use Rattle.bits.specs.Square.{cell}
use Rattle.xpath.specs.Syntax.{XPath}
use Rattle.positions.specs.Glushkov.{Next}
use Rattle.path_sets.proofs.Truth.{tells_or, tells_and}
use Rattle.automaton.specs.Following.{Related}

-- every member of v follows every member of u
abbrev pub Joined : ℕ → ℕ → List (List Bool) → List (List Bool) → Type 0
Joined u v f g = (i j : ℕ) → i < 16 → j < 16 → cell g i j ≡ or (cell f i j) (and (bit u i) (bit v j))

pub joined_tells : {A B : ℕ → Type 0} (u v : ℕ) (f g : List (List Bool)) → ((i : ℕ) → (bit u i ≡ true) ↔ A i) → ((j : ℕ) → (bit v j ≡ true) ↔ B j) → Joined u v f g
    → (i j : ℕ) → i < 16 → j < 16 → (cell g i j ≡ true) ↔ ((cell f i j ≡ true) ⊎ (A i × B j))
joined_tells u v f g h k e i j x y =
    tells_or (cell f i j) (and (bit u i) (bit v j)) (λ z. z, λ z. z) (tells_and (bit u i) (bit v j) (h i) (k j) _ refl) _ (e i j x y)

-- nothing follows in a path of one step or none
pub same_tells : (P : XPath) (b : ℕ) (f : List (List Bool)) → ((i j : ℕ) → Next P b i j → ⊥) → Related P b f f
same_tells P b f nothing = record { told = λ i j x y. (λ h. inl h, from i j) }
  where
    from : (i j : ℕ) → (cell f i j ≡ true) ⊎ Next P b i j → cell f i j ≡ true
    from i j (inl h) = h
    from i j (inr h) = absurd (nothing i j h)

-- nothing is in the empty relation
pub clear_tells : (f : List (List Bool)) → f ≡ replicate 16 (replicate 16 false) → (i j : ℕ) → i < 16 → j < 16 → cell f i j ≡ true → ⊥
clear_tells f e i j x y h =
    clash (sym (ap (λ g. cell g i j) e ∙ ap (λ (row : List Bool). get_or row j false) (get_or-replicate 16 i (replicate 16 false) [] x) ∙ get_or-replicate 16 j false false y) ∙ h)
