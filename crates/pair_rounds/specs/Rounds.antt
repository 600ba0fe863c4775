-- What a round adds to the pairs of the nodes, and what holds where it adds none.
use Rattle.std.specs.Prelude.{ℕ, ◌+◌, ◌*◌, ◌≤◌, ◌<◌, ◌≡◌, List}
use Rattle.limits.specs.Limits.{positions}
use Rattle.layout.specs.Blocks.{down_at, up_at}
use Rattle.layout.specs.Part.{PAIRS, pair_at}
use Rattle.layout.specs.Table.{PARENT}
use Rattle.layout.specs.Words.{word}
use Rattle.matrices.specs.Matrices.{Related, pairs}
use Rattle.pairs.specs.Derived.{Over}
use Rattle.pairs.specs.Growing.{Grown, Everywhere}

-- how many pairs there are
abbrev pub total : ℕ → List ℕ → ℕ
total n p = pairs p (PAIRS * n) (positions * n)

-- at least r pairs are added; where r is 0 nothing changes, and B holds
pub record Passed (B : Type 0) (n : ℕ) (p p' : List ℕ) (r : ℕ) : Type 0 where
  pub grown : Grown n p p'
  pub count : r + total n p ≤ total n p'
  pub still : r ≡ 0 → p' ≡ p
  pub settled : r ≡ 0 → B

-- what comes to a pair of y is a pair of its parent
abbrev pub Rises : ℕ → List ℕ → ℕ → Type 0
Rises n p y = (a b : ℕ) → a < positions → b < positions → Over (Related p (pair_at n y)) p (down_at n 0 y) (down_at n 0 y) a b → Related p (pair_at n (word p n PARENT y)) a b

-- what comes to a pair of the parent of y is a pair of y
abbrev pub Falls : ℕ → List ℕ → ℕ → Type 0
Falls n p y = (a b : ℕ) → a < positions → b < positions → Over (Related p (pair_at n (word p n PARENT y))) p (up_at n 0 y) (up_at n 0 y) a b → Related p (pair_at n y) a b

-- no node can grow by its neighbours
abbrev pub Still : ℕ → List ℕ → Type 0
Still n p = Everywhere (Rises n p) n × Everywhere (Falls n p) n
