-- The byte order of strings: by unsigned bytes, a proper prefix being smaller. Nothing that is promised speaks of it: texts are sorted by some order, so that equal ones come together, and this one is at hand.
use Rattle.std.specs.Prelude.{ℕ, ◌<◌, ◌≡◌, ◌⊎◌, Bool, true, false, List, [], ◌∷◌, ltb, eqb}
use Rattle.xpath.specs.Booleans.{both, either}

abbrev pub Less : List ℕ → List ℕ → Type 0
Less [] [] = ⊥
Less [] (b ∷ ys) = Unit {0}
Less (a ∷ xs) [] = ⊥
Less (a ∷ xs) (b ∷ ys) = (a < b) ⊎ ((a ≡ b) × Less xs ys)

-- as a test that computes
abbrev pub lessb : List ℕ → List ℕ → Bool
lessb [] [] = false
lessb [] (y ∷ ys) = true
lessb (x ∷ xs) [] = false
lessb (x ∷ xs) (y ∷ ys) = either (ltb x y) (both (eqb x y) (lessb xs ys))
