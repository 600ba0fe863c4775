-- The work list backwards: it begins where walks end, and goes from a position at a node to those that come to it by one step.
use Rattle.std.specs.Prelude.{ℕ, ◌≤◌, ◌<◌, ◌≡◌, ◌⊎◌, true, List, get_or}
use Rattle.limits.specs.Limits.{positions}
use Rattle.bits.specs.Sets.{bit}
use Rattle.layout.specs.Part.{NODES, POSITIONS}
use Rattle.layout.specs.Table.{LEFT, RIGHT, PARENT}
use Rattle.layout.specs.Words.{word}
use Rattle.machine.specs.declared.Machine.{Machine}
use Rattle.machine.specs.Walks.{Leads, Walk, Stops}
use Rattle.reach.specs.Work.{Seen, Has, node_of, Added}
use Rattle.rank_sets.specs.Ranges.{Some}

-- ── The links ──
-- a child's parent is the node that it is a child of
pub record LinkedBothWays (n : ℕ) (p : List ℕ) : Type 0 where
  -- of a left child
  pub left : (v u : ℕ) → v < n → u < n → word p n LEFT v ≡ u → word p n PARENT u ≡ v
  -- and of a right child
  pub right : (v u : ℕ) → v < n → u < n → word p n RIGHT v ≡ u → word p n PARENT u ≡ v

-- ── Sets of positions ──
-- two sets have a member in common
abbrev pub Common : ℕ → ℕ → Type 0
Common a b = (j : ℕ) × (j < positions) × (bit a j ≡ true) × (bit b j ≡ true)

-- a member of w follows i
abbrev pub Precedes : List ℕ → ℕ → ℕ → Type 0
Precedes rows w i = Common (get_or rows i 0) w

-- a position of both sets follows i
abbrev pub Sources : List ℕ → ℕ → ℕ → ℕ → Type 0
Sources rows s steps i = (j : ℕ) × (j < positions) × (bit s j ≡ true) × (bit steps j ≡ true) × (bit (get_or rows i 0) j ≡ true)

-- ── The list ──
-- entry k is of node v and has position i
abbrev pub OfEntry : List ℕ → ℕ → ℕ → ℕ → ℕ → Type 0
OfEntry p n i k v = (v ≡ node_of p n k) × Has p n k i

-- one of the entries from a up to b is so
abbrev pub OfEntries : List ℕ → ℕ → ℕ → ℕ → ℕ → ℕ → Type 0
OfEntries p n i a b v = (k : ℕ) × (a ≤ k) × (k < b) × OfEntry p n i k v

-- position i is seen at v now and was not before: just that is what the new entries hold (`entry_new` and `new_entry`)
abbrev pub New : ℕ → ℕ → List ℕ → List ℕ → ℕ → Type 0
New n i p p' v = Seen p' n v i × (¬ Seen p n v i)

module _ (m : Machine) (n : ℕ) (p : List ℕ) where
  -- step j leads from v down to its child u
  abbrev pub Descends : ℕ → ℕ → ℕ → Type 0
  Descends v u j = ((bit m.left j ≡ true) × (word p n LEFT v ≡ u)) ⊎ ((bit m.right j ≡ true) × (word p n RIGHT v ≡ u))

  -- i at v comes to a position of s at u by one step
  abbrev pub Into : ℕ → ℕ → ℕ → ℕ → Type 0
  Into u s v i = (j : ℕ) × (j < positions) × (bit s j ≡ true) × (bit (get_or m.rows i 0) j ≡ true) × Leads m n p v j u

  -- i at v comes to a position of entry k by one step
  abbrev pub Before : ℕ → ℕ → ℕ → Type 0
  Before k v i = Into (node_of p n k) (word p n POSITIONS k) v i

  -- what comes to a seen position by one step is seen
  abbrev pub Closed : Type 0
  Closed = (v i u j : ℕ) → v < n → i < positions → u < n → j < positions → bit (get_or m.rows i 0) j ≡ true → Leads m n p v j u → Seen p n u j → Seen p n v i

  -- i at v walks to a position of the set at w
  abbrev pub Towards : ℕ → ℕ → ℕ → ℕ → Type 0
  Towards w set v i = (j : ℕ) × (bit set j ≡ true) × Walk m n p i v j w

  -- i at v ends at a node that E holds of
  abbrev pub Ends : (ℕ → Type 0) → ℕ → ℕ → Type 0
  Ends E v i = Some n E (λ w. Stops m n p i v w)

-- what walks to a position of the set at w is seen too now, and no more
abbrev pub Backed : Machine → ℕ → ℕ → ℕ → ℕ → ℕ → List ℕ → List ℕ → Type 0
Backed m n w set len len' p p' = Added (Towards m n p w set) n NODES len len' p p'
