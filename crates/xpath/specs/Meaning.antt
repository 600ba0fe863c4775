-- What a test and a path mean at the nodes of a tree: 01, the rule; 000, 1.2.2 (Regular XPath).
use Rattle.std.specs.Prelude.{ℕ, ◌≡◌, ◌⊎◌, ◌≢◌, true, false, List}
use Rattle.lists.specs.Lists.{AtLeast}
use Rattle.lists.specs.Blanks.{trim}
use Rattle.xpath.specs.Syntax.{Op, eq, ne, lt, le, gt, ge, Test, named, not, and, or, compare, compare_to, at_least, XPath, empty, one, seq, union, star, Step, to_left, to_right, from_left, from_right, stay}
use Rattle.xpath.specs.Tree.{Tree, Child}
use Rattle.xpath.specs.Amounts.{Amount, HasAmount, Below, AtMost}

-- 02 (f): both are numerals, and their amounts are so ordered
abbrev pub ByAmount : (Amount → Amount → Type 0) → List ℕ → List ℕ → Type 0
ByAmount R bs cs = (a b : Amount) × HasAmount bs a × HasAmount cs b × R a b

-- = and != compare text
abbrev pub Rel : Op → List ℕ → List ℕ → Type 0
Rel eq bs cs = bs ≡ cs
Rel ne bs cs = bs ≢ cs
Rel lt bs cs = ByAmount Below bs cs
Rel le bs cs = ByAmount AtMost bs cs
Rel gt bs cs = ByAmount Below cs bs
Rel ge bs cs = ByAmount AtMost cs bs

-- zero or more times
pub data Many (R : ℕ → ℕ → Type 0) : ℕ → ℕ → Type 0 where
  none : {v : ℕ} → Many R v v
  more : {v u w : ℕ} → R v u → Many R u w → Many R v w

abbrev mutual
  -- T holds at v; a comparison, if some node reached by the first path and some node reached by the second (or c) have values in that relation; 02 (b): blanks at the ends of c do not count; 02 (h): a count, if its path reaches at least n different nodes
  pub Holds : Tree → Test → ℕ → Type 0
  Holds t (named n) v = t.label v ≡ n
  Holds t (not T) v = ¬ Holds t T v
  Holds t (and T U) v = Holds t T v × Holds t U v
  Holds t (or T U) v = Holds t T v ⊎ Holds t U v
  Holds t (compare o P Q) v = (w u : ℕ) × Reaches t P v w × Reaches t Q v u × Rel o (t.value w) (t.value u)
  Holds t (compare_to o P c) v = (w : ℕ) × Reaches t P v w × Rel o (t.value w) (trim c)
  Holds t (at_least n P) v = AtLeast n (λ w. Reaches t P v w)

  -- P reaches w from v
  pub Reaches : Tree → XPath → ℕ → ℕ → Type 0
  Reaches t empty v w = v ≡ w
  Reaches t (one s) v w = Moves t s v w
  Reaches t (seq P Q) v w = (u : ℕ) × Reaches t P v u × Reaches t Q u w
  Reaches t (union P Q) v w = Reaches t P v w ⊎ Reaches t Q v w
  Reaches t (star P) v w = Many (λ a b. Reaches t P a b) v w

  pub Moves : Tree → Step → ℕ → ℕ → Type 0
  Moves t to_left v w = Child t true v w
  Moves t to_right v w = Child t false v w
  Moves t from_left v w = Child t true w v
  Moves t from_right v w = Child t false w v
  Moves t (stay T) v w = (v ≡ w) × Holds t T v
