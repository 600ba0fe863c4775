-- The equalities between two paths that the numbered tests of a rule are.
use Rattle.std.specs.Prelude.{List, [], ◌∷◌, ◌++◌}
use Rattle.xpath.specs.Syntax.{eq, ne, lt, le, gt, ge, Test, named, not, and, or, compare, compare_to, at_least}
use Rattle.snippets.specs.Count.{Pair}

-- an equality between two paths has this pair of its own, any other test none
abbrev pub own : Test → List Pair
own (named a) = []
own (not T) = []
own (and T U) = []
own (or T U) = []
own (compare eq P R) = record { first = P; second = R } ∷ []
own (compare ne P R) = []
own (compare lt P R) = []
own (compare le P R) = []
own (compare gt P R) = []
own (compare ge P R) = []
own (compare_to o P c) = []
own (at_least n P) = []

-- the pairs of a list of tests, in their order
unfoldable pub owned : List Test → List Pair
owned [] = []
owned (T ∷ Ts) = own T ++ owned Ts
