-- Lists: membership, and how many things there are of a kind.
use Rattle.std.specs.Prelude.{ℕ, ◌≡◌, ◌⊎◌, List, [], ◌∷◌, length}

module _ {A : Type 0} where
  -- every element is B
  abbrev pub All : (A → Type 0) → List A → Type 0
  All B [] = Unit {0}
  All B (x ∷ xs) = B x × All B xs

  abbrev pub Occurs : A → List A → Type 0
  Occurs a [] = ⊥
  Occurs a (x ∷ xs) = (a ≡ x) ⊎ Occurs a xs

  abbrev pub Distinct : List A → Type 0
  Distinct [] = Unit {0}
  Distinct (x ∷ xs) = (¬ Occurs x xs) × Distinct xs

  -- at least n things are B: there is a list without repetition of n of them
  abbrev pub AtLeast : ℕ → (A → Type 0) → Type 0
  AtLeast n B = (xs : List A) × (length xs ≡ n) × Distinct xs × All B xs

  -- exactly n things are B: a list without repetition holds them all and nothing else, and n is its length
  pub record Number (B : A → Type 0) (n : ℕ) : Type 0 where
    pub list : List A
    pub all : (a : A) → B a → Occurs a list
    pub only : (a : A) → Occurs a list → B a
    pub distinct : Distinct list
    pub long : length list ≡ n
