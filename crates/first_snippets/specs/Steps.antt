-- What the single steps write: a node's positions from above, with the rows of the edge above it.
use Rattle.std.specs.Prelude.{ℕ, suc, ◌<◌, List}
use Rattle.xpath.specs.Syntax.{XPath}
use Rattle.xpath.specs.Tree.{Tree}
use Rattle.snippets.specs.Snippets.{Skeleton}
use Rattle.layout.specs.Groups.{ABOVE}
use Rattle.machine.specs.declared.Machine.{Machine}
use Rattle.group_ends.specs.Ends.{Setting, Risen}
use Rattle.layout.specs.Blocks.{Rest}
use Rattle.edge_snippets.specs.Edges.{OfFirst, Gains}
use Rattle.first_snippets.specs.Groups.{Yields, Sunk}

-- ── From above ──
-- node v has its positions from above, and the edge above it is in the rows
pub record Sinks (m : Machine) (n b first r v : ℕ) (p p' : List ℕ) : Type 0 where
  pub rest : Rest ABOVE n b p p'
  pub found : (P R : XPath) (t : Tree) (d : List ℕ) → Setting P R t d m n b r p → OfFirst P first → Risen P R t d n p 0 → Sunk P R t d n p v
      → Sunk P R t d n p' (suc v) × Gains t n b (Yields P R t d v) p p'

-- the same of a skeleton node
pub record SinksBy (m : Machine) (n b first r v : ℕ) (p p' : List ℕ) : Type 0 where
  pub rest : Rest ABOVE n b p p'
  pub found : (P R : XPath) (t : Tree) (d : List ℕ) → Setting P R t d m n b r p → Skeleton t d v → OfFirst P first → Risen P R t d n p 0 → Sunk P R t d n p v
      → Sunk P R t d n p' (suc v) × Gains t n b (Yields P R t d v) p p'

-- the nodes before v
pub record Sank (m : Machine) (n b first r v : ℕ) (p p' : List ℕ) : Type 0 where
  pub rest : Rest ABOVE n b p p'
  pub found : (P R : XPath) (t : Tree) (d : List ℕ) → Setting P R t d m n b r p → OfFirst P first → Risen P R t d n p 0
      → Sunk P R t d n p' v × Gains t n b (λ k a y i j. (z : ℕ) × (z < v) × Yields P R t d z k a y i j) p p'
