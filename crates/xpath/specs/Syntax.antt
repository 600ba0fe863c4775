-- A rule's tests, paths and steps: 01, the rule; 000, 1.2.2. A name or a constant is the list of its bytes.
use Rattle.std.specs.Prelude.{ℕ, List, [], ◌∷◌, ◌++◌, length}

-- = != < <= > >=
pub data Op : Type 0 where
  eq ne lt le gt ge : Op

mutual
  -- :name, !T, &TT, |TT, (P o P), (P o "c"), and 02 (h) #nP
  pub data Test : Type 0 where
    named : List ℕ → Test
    not : Test → Test
    and : Test → Test → Test
    or : Test → Test → Test
    compare : Op → XPath → XPath → Test
    compare_to : Op → XPath → List ℕ → Test
    at_least : ℕ → XPath → Test

  -- e, a step, .PP one after the other, +PP either, *P zero or more times
  pub data XPath : Type 0 where
    empty : XPath
    one : Step → XPath
    seq : XPath → XPath → XPath
    union : XPath → XPath → XPath
    star : XPath → XPath

  -- l and r to the left or right child, L and R from a left or right child to its parent, [T] stay where T holds
  pub data Step : Type 0 where
    to_left : Step
    to_right : Step
    from_left : Step
    from_right : Step
    stay : Test → Step

-- the steps of a path, as written; what is inside a bracket is not counted again
abbrev pub steps : XPath → List Step
steps empty = []
steps (one s) = s ∷ []
steps (seq P Q) = steps P ++ steps Q
steps (union P Q) = steps P ++ steps Q
steps (star P) = steps P

abbrev pub size : XPath → ℕ
size P = length (steps P)
