-- The way up from a node of the skeleton of a group to the next one.
use Rattle.std.specs.Prelude.{ℕ, ◌≤◌, ◌<◌, ◌≡◌, Bool, List, Option, Some, None}
use Rattle.xpath.specs.Tree.{Tree, Child, Under}
use Rattle.snippets.specs.Snippets.{Skeleton, Edge}
use Rattle.group_marks.specs.Groups.{Group}
use Rattle.skeletons.specs.declared.Climb.{Climb}

-- the way up from the skeleton node y ends at x, n edges above y, by x's child c
abbrev pub Arrives : Tree → List ℕ → ℕ → ℕ → ℕ → ℕ → Type 0
Arrives t d y x n c = Edge t d x y n × ((side : Bool) × Child t side x c × Under t c y)

-- where the way up from node y ends at a skeleton node: at x, m edges above y, by x's child c
pub record Ascent (n r y x m c : ℕ) (p : List ℕ) : Type 0 where
  -- whatever y is, these are numbers of nodes, and the way is not longer than there are nodes
  pub node : x < n
  pub child : c < n
  pub proper : 0 < m
  pub short : m ≤ n
  -- the edge to a skeleton node y
  pub arrives : (t : Tree) (d : List ℕ) → Group t d n r p → Skeleton t d y → Arrives t d y x m c

-- the way up from node y ends above the root: a skeleton node y is the topmost one
abbrev pub Topmost : ℕ → ℕ → ℕ → List ℕ → Type 0
Topmost n r y p = (t : Tree) (d : List ℕ) → Group t d n r p → Skeleton t d y → (s : ℕ) → Skeleton t d s → Under t s y → s ≡ y

-- the one or the other
abbrev pub Climbs : ℕ → ℕ → ℕ → Option Climb → List ℕ → Type 0
Climbs n r y (Some c) p = Ascent n r y c.node c.length c.child p
Climbs n r y None p = Topmost n r y p
