-- The work list of a walk: each time that positions are new at a node, they are seen there, and the list gets an entry of the node with them.
use Rattle.std.specs.Prelude.{ℕ, zero, suc, ◌+◌, ◌*◌, ◌≤◌, ◌<◌, ◌≡◌, ◌⊎◌, ◌↔◌, true, List, [], ◌∷◌, get_or}
use Rattle.limits.specs.Limits.{positions}
use Rattle.bits.specs.Sets.{bit, size}
use Rattle.layout.specs.Part.{SEEN, NODES, POSITIONS, Space}
use Rattle.layout.specs.Table.{LEFT, RIGHT}
use Rattle.layout.specs.Words.{cell, word, Same}
use Rattle.machine.specs.declared.Machine.{Machine}
use Rattle.machine.specs.Walks.{Leads}

-- position j is seen at node u
abbrev pub Seen : List ℕ → ℕ → ℕ → ℕ → Type 0
Seen p n u j = bit (word p n SEEN u) j ≡ true

-- the node of entry k
abbrev pub node_of : List ℕ → ℕ → ℕ → ℕ
node_of p n k = word p n NODES k

-- entry k has position j
abbrev pub Has : List ℕ → ℕ → ℕ → ℕ → Type 0
Has p n k j = bit (word p n POSITIONS k) j ≡ true

-- how many positions are seen at the nodes below v
unfoldable pub total : List ℕ → ℕ → ℕ → ℕ
total p n zero = 0
total p n (suc v) = total p n v + size positions (word p n SEEN v)

-- the list has len entries
pub record Work (n len : ℕ) (p : List ℕ) : Type 0 where
  pub space : Space n p
  -- each entry is of a node
  pub nodes : (k : ℕ) → k < len → node_of p n k < n
  -- what an entry has is seen at its node
  pub told : (k j : ℕ) → k < len → j < positions → Has p n k j → Seen p n (node_of p n k) j
  -- what is seen at a node is in an entry of it
  pub listed : (u j : ℕ) → u < n → j < positions → Seen p n u j → (k : ℕ) × (k < len) × (node_of p n k ≡ u) × Has p n k j
  -- no position of a node is in two entries
  pub once : (k l j : ℕ) → k < len → l < len → j < positions → node_of p n k ≡ node_of p n l → Has p n k j → Has p n l j → k ≡ l
  -- there are no more entries than positions that are seen: so 16 for each node are enough
  pub count : len ≤ total p n n

-- the columns before d are as they were, but SEEN
pub record Spared (n d : ℕ) (p p' : List ℕ) : Type 0 where
  pub same : Same (λ k. (k < SEEN * n) ⊎ ((suc SEEN * n ≤ k) × (k < d * n))) p p'

-- the positions j at nodes u that R holds of were added to a list of len entries, which has len' now
pub record Added (R : ℕ → ℕ → Type 0) (n d len len' : ℕ) (p p' : List ℕ) : Type 0 where
  pub work : Work n len' p'
  -- what stands beside the list is as it was
  pub spared : Spared n d p p'
  -- so are the entries that were there
  pub more : len ≤ len'
  pub nodes : (k : ℕ) → k < len → node_of p' n k ≡ node_of p n k
  pub sets : (k : ℕ) → k < len → word p' n POSITIONS k ≡ word p n POSITIONS k
  -- those positions are seen too now, and no others
  pub seen : (u j : ℕ) → u < n → j < positions → Seen p' n u j ↔ (Seen p n u j ⊎ R u j)

-- what is written for an entry: all that is seen at node u now, and what was new
abbrev pub entered : ℕ → ℕ → ℕ → ℕ → ℕ → List (ℕ × ℕ)
entered n u seen new len = (cell n POSITIONS len, new) ∷ (cell n NODES len, u) ∷ (cell n SEEN u, seen) ∷ []

-- the positions of a set at one node
abbrev pub At : ℕ → ℕ → ℕ → ℕ → Type 0
At u w x j = (x ≡ u) × (bit w j ≡ true)

module _ (m : Machine) (n : ℕ) (p : List ℕ) where
  -- step j leads from v up to its parent u
  abbrev pub Climbs : ℕ → ℕ → ℕ → Type 0
  Climbs v u j = ((bit m.leftup j ≡ true) × (word p n LEFT u ≡ v)) ⊎ ((bit m.rightup j ≡ true) × (word p n RIGHT u ≡ v))

  -- a position of f leads from v to u
  abbrev pub Onward : ℕ → ℕ → ℕ → ℕ → Type 0
  Onward v f u j = (bit f j ≡ true) × Leads m n p v j u

  -- a position of entry k is followed by j, which leads from the entry's node to u
  abbrev pub After : ℕ → ℕ → ℕ → Type 0
  After k u j = (i : ℕ) × (i < positions) × Has p n k i × (bit (get_or m.rows i 0) j ≡ true) × Leads m n p (node_of p n k) j u
