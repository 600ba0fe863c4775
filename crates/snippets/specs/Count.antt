-- How many snippets the comparisons of a rule have: 01, snippets, and demand 3.
use Rattle.std.specs.Prelude.{ℕ, ◌+◌, ◌*◌, ◌≤◌, ◌<◌, ◌≡◌, ◌↔◌, List, [], ◌∷◌, ◌++◌, length}
use Rattle.lists.specs.Lists.{Occurs, Number}
use Rattle.lists.specs.Text.{binary_digits}
use Rattle.limits.specs.Limits.{snippet_factor}
use Rattle.xpath.specs.Syntax.{Op, eq, ne, lt, le, gt, ge, Test, named, not, and, or, compare, compare_to, at_least, XPath, empty, one, seq, union, star, Step, to_left, to_right, from_left, from_right, stay}
use Rattle.xpath.specs.Tree.{Tree}
use Rattle.xpath.specs.Meaning.{Holds}
use Rattle.snippets.specs.Snippets.{Yielded, SettledBy}

pub record Snippet : Type 0 where
  pub power : ℕ
  pub x : ℕ
  pub y : ℕ
  pub p : ℕ
  pub q : ℕ

-- an equality between two paths
pub record Pair : Type 0 where
  pub first : XPath
  pub second : XPath

abbrev equal : Op → XPath → XPath → List Pair
equal eq P Q = record { first = P; second = Q } ∷ []
equal ne P Q = []
equal lt P Q = []
equal le P Q = []
equal gt P Q = []
equal ge P Q = []

-- the comparisons (P = R) of two paths in a rule, each place counted, nested ones included
abbrev mutual
  pub comparisons : Test → List Pair
  comparisons (named n) = []
  comparisons (not T) = comparisons T
  comparisons (and T U) = comparisons T ++ comparisons U
  comparisons (or T U) = comparisons T ++ comparisons U
  comparisons (compare o P Q) = equal o P Q ++ (in_path P ++ in_path Q)
  comparisons (compare_to o P c) = in_path P
  comparisons (at_least n P) = in_path P

  pub in_path : XPath → List Pair
  in_path empty = []
  in_path (one s) = in_step s
  in_path (seq P Q) = in_path P ++ in_path Q
  in_path (union P Q) = in_path P ++ in_path Q
  in_path (star P) = in_path P

  pub in_step : Step → List Pair
  in_step to_left = []
  in_step to_right = []
  in_step from_left = []
  in_step from_right = []
  in_step (stay T) = comparisons T

module _ (t : Tree) where
  abbrev pub IsSnippet : Pair → Snippet → Type 0
  IsSnippet c s = Yielded t c.first c.second s.power s.x s.y s.p s.q

  abbrev snippet : ℕ → ℕ → ℕ → ℕ → Snippet
  snippet x y p q = record { power = 0; x = x; y = y; p = p; q = q }

  -- n is the number of distinct snippets of c, and the settling rule, read on the very snippets counted, agrees with the definition at every node
  pub record Sized (c : Pair) (n : ℕ) : Type 0 where
    pub counted : Number (IsSnippet c) n
    pub settles : (v : ℕ) → v < t.size
        → SettledBy t c.first c.second (λ x y p q. Occurs (snippet x y p q) counted.list) v ↔ Holds t (compare eq c.first c.second) v

  -- n is the number of snippets of these comparisons, added
  abbrev pub Counted : List Pair → ℕ → Type 0
  Counted [] n = n ≡ 0
  Counted (c ∷ cs) n = (a b : ℕ) × (n ≡ a + b) × Sized c a × Counted cs b

-- what demand 3 says of the snippet count n of a rule on a tree
pub record SnippetCount (t : Tree) (T : Test) (n : ℕ) : Type 0 where
  pub counted : Counted t (comparisons T) n
  pub bounded : n ≤ snippet_factor * t.size * binary_digits t.size * length (comparisons T)
