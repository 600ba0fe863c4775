-- The nodes that have a rank, taken by rank, backwards from each: what is seen first from a node of some rank is noted with that rank.
use Rattle.std.specs.Prelude.{ℕ, suc, ◌+◌, ◌≤◌, ◌<◌, ◌≡◌, ◌⊎◌, List}
use Rattle.layout.specs.Table.{RANK}
use Rattle.layout.specs.Words.{word, NONE}
use Rattle.machine.specs.declared.Machine.{Machine}
use Rattle.machine.specs.Walks.{Stops}
use Rattle.reach.specs.Work.{Work, Spared}
use Rattle.rank_sets.specs.Ends.{Held}
use Rattle.rank_sets.specs.Ranges.{Some, WithRank, Ranged}
use Rattle.rank_sets.specs.declared.ranges.Range.{Range}
use Rattle.layout.specs.Sweeps.{LEAST, ABOVE}

-- the first path's range at v, and the second's in the next columns
abbrev pub range_of : List ℕ → ℕ → ℕ → ℕ → Range
range_of p n i v = record { least = word p n (LEAST + i) v; above = word p n (ABOVE + i) v }

-- ── Sweeps ──
-- x is the blank, and D holds of no node; or x is the key of a node that D holds of, and comes first in the order of all such keys
abbrev pub Extreme : (ℕ → ℕ → Type 0) → ℕ → ℕ → (ℕ → ℕ) → (ℕ → Type 0) → ℕ → Type 0
Extreme Order blank n key D x =
    ((x ≡ blank) × ((w : ℕ) → w < n → ¬ D w)) ⊎ (Some n D (λ w. key w ≡ x) × ((w : ℕ) → w < n → D w → Order x (key w)))

-- nothing is seen, and the blank stands in column c and in the next
pub record Blank (n c blank : ℕ) (p : List ℕ) : Type 0 where
  pub work : Work n 0 p
  -- for the first path and for the second
  pub first : (v : ℕ) → v < n → word p n c v ≡ blank
  pub second : (v : ℕ) → v < n → word p n (c + 1) v ≡ blank

-- so it is now, and the columns before are as they were
pub record Blanked (n c blank : ℕ) (p p' : List ℕ) : Type 0 where
  pub spared : Spared n c p p'
  pub made : Blank n c blank p'

-- i at v ends at w, and w has a rank
abbrev pub StopsRanked : Machine → ℕ → List ℕ → ℕ → ℕ → ℕ → Type 0
StopsRanked m n p i v = WithRank n (word p n RANK) (λ w. Stops m n p i v w)

-- the key that comes first among those of the nodes that have a rank where a path ends, at each node
pub record Swept (Order : ℕ → ℕ → Type 0) (blank : ℕ) (key : ℕ → ℕ) (m : Machine) (n c : ℕ) (p p' : List ℕ) : Type 0 where
  pub spared : Spared n c p p'
  -- for the first path in column c, and for the second in the next
  pub first : (v : ℕ) → v < n → Extreme Order blank n key (StopsRanked m n p 0 v) (word p' n c v)
  pub second : (v : ℕ) → v < n → Extreme Order blank n key (StopsRanked m n p m.second v) (word p' n (c + 1) v)

-- by rising rank: the least rank, and 65535 where a path ends at no rank
abbrev pub Risen : Machine → ℕ → List ℕ → List ℕ → Type 0
Risen m n p p' = Swept (λ a b. a ≤ b) NONE (word p n RANK) m n LEAST p p'

-- by falling rank: one more than the greatest rank, and 0 where a path ends at no rank
abbrev pub Fallen : Machine → ℕ → List ℕ → List ℕ → Type 0
Fallen m n p p' = Swept (λ a b. b ≤ a) 0 (λ w. suc (word p n RANK w)) m n ABOVE p p'

-- the ranges of the ranks that nodes have where the two paths end, at each node
pub record Ranges (m : Machine) (n : ℕ) (p p' : List ℕ) : Type 0 where
  pub held : Held n p p'
  -- of the first path and of the second
  pub first : (v : ℕ) → v < n → Ranged n (StopsRanked m n p 0 v) (word p n RANK) (range_of p' n 0 v)
  pub second : (v : ℕ) → v < n → Ranged n (StopsRanked m n p m.second v) (word p n RANK) (range_of p' n 1 v)
