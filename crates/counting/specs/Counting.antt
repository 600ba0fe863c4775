-- The walks of a count: which nodes one of them finds, and what it leaves to the next.
use Rattle.std.specs.Prelude.{ℕ, ◌+◌, ◌<◌, ◌≡◌, ◌⊎◌, ◌↔◌, true, List, [], ◌∷◌}
use Rattle.layout.specs.Part.{POSITIONS, FOUND}
use Rattle.layout.specs.Words.{cell, word, Wrote}
use Rattle.machine.specs.declared.Machine.{Machine}
use Rattle.machine.specs.Walks.{Several}
use Rattle.reach.specs.Work.{node_of, Work}
use Rattle.rank_sets.specs.Ends.{Steady}
use Rattle.retracing.specs.Backward.{Common}
use Rattle.counting.specs.declared.walk.Trail.{Trail}

-- node w is found
abbrev pub IsFound : List ℕ → ℕ → ℕ → Type 0
IsFound p n w = word p n FOUND w ≡ 1

-- entry h has one of the last positions: the path ends at its node
abbrev pub EndsAt : List ℕ → ℕ → ℕ → ℕ → Type 0
EndsAt p n last h = Common (word p n POSITIONS h) last

-- what entry h adds to the nodes that are found: their number was `count` and is `count'` now
pub data Find (n last h count count' : ℕ) (p p' : List ℕ) : Type 0 where
  -- the path does not end at its node, or the node is found already
  old : (EndsAt p n last h → IsFound p n (node_of p n h)) → count' ≡ count → p' ≡ p → Find n last h count count' p p'
  -- the node is found now
  new : EndsAt p n last h → ¬ IsFound p n (node_of p n h) → count' ≡ count + 1 → Wrote ((cell n FOUND (node_of p n h), 1) ∷ []) p p' → Find n last h count count' p p'

-- between two walks: nothing is seen, and no node is found
pub record Clean (n : ℕ) (p : List ℕ) : Type 0 where
  pub work : Work n 0 p
  pub unfound : (w : ℕ) → w < n → word p n FOUND w ≡ 0

-- behind a walk: only nodes of the entries are found, so it is enough to go through them to be between two walks again
pub record Walked (n len : ℕ) (p : List ℕ) : Type 0 where
  pub work : Work n len p
  pub listed : (w : ℕ) → w < n → (word p n FOUND w ≡ 0) ⊎ ((k : ℕ) × (k < len) × (node_of p n k ≡ w))

-- the walk from v is over, and tells whether the first path ends at k nodes or more
pub record Searched (m : Machine) (n v k : ℕ) (r : Trail) (p p' : List ℕ) : Type 0 where
  pub steady : Steady n p p'
  pub walked : Walked n r.len p'
  pub told : (r.enough ≡ true) ↔ Several m n p k v

-- so it is between two walks again, and what a walk goes by and the answers are as they were
pub record Forgot (n : ℕ) (p p' : List ℕ) : Type 0 where
  pub steady : Steady n p p'
  pub clean : Clean n p'
