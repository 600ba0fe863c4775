-- What the single steps write: a node's positions, and what it hands up; and what is found beside a child.
use Rattle.std.specs.Prelude.{ℕ, suc, ◌≤◌, ◌<◌, ◌≡◌, Bool, List}
use Rattle.xpath.specs.Syntax.{XPath}
use Rattle.xpath.specs.Tree.{Tree, Child, Under}
use Rattle.snippets.specs.Snippets.{Skeleton, Edge}
use Rattle.snippets.specs.Ways.{In, Out, Above}
use Rattle.layout.specs.Groups.{IN, LEFTIN, ABOVE}
use Rattle.layout.specs.Words.{word, Within}
use Rattle.machine.specs.declared.Machine.{Machine}
use Rattle.matrices.specs.Matrices.{Exactly}
use Rattle.powers.specs.Blocks.{BlockRoom}
use Rattle.lifting.specs.Ladder.{Ladder}
use Rattle.powers.specs.Powers.{Ready}
use Rattle.group_marks.specs.Groups.{IsNoted, Group}
use Rattle.group_ends.specs.Ends.{inward, Setting, Enough, Sides, Risen}

-- ── From below ──
-- v is a skeleton node of some value, on a tree with its powers
pub record Placed (n b r v : ℕ) (p : List ℕ) : Type 0 where
  pub first : XPath
  pub second : XPath
  pub tree : Tree
  pub value : List ℕ
  pub ladder : Ladder first second tree n b p
  pub group : Group tree value n r p
  pub skeleton : Skeleton tree value v
  pub enough : Enough tree b
  pub sizes : BlockRoom n b p

-- the words of the two columns are 0, for the nodes below v whose block is noted
pub record Cleared (n v : ℕ) (p p' : List ℕ) : Type 0 where
  pub inside : v ≤ n
  pub within : Within n LEFTIN ABOVE p p'
  pub empty : (side : Bool) (u : ℕ) → u < v → IsNoted p n u → word p' n (inward side) u ≡ 0

-- node v hands the members of set up to the next skeleton node
pub record Handed (n b r v set : ℕ) (p p' : List ℕ) : Type 0 where
  pub within : Within n LEFTIN ABOVE p p'
  pub found : (P R : XPath) (t : Tree) (d : List ℕ) → Ladder P R t n b p → Group t d n r p → Skeleton t d v → Exactly set (In t P R d v)
      → Sides P R t d n p (suc v) → Sides P R t d n p' v

-- from node u on to node v on
pub record Rises (m : Machine) (n b r u v : ℕ) (p p' : List ℕ) : Type 0 where
  pub within : Within n IN ABOVE p p'
  pub found : (P R : XPath) (t : Tree) (d : List ℕ) → Setting P R t d m n b r p → Risen P R t d n p u → Risen P R t d n p' v

-- all nodes
pub record Rose (m : Machine) (n b r : ℕ) (p p' : List ℕ) : Type 0 where
  pub within : Within n IN ABOVE p p'
  pub found : (P R : XPath) (t : Tree) (d : List ℕ) → Setting P R t d m n b r p → Risen P R t d n p' 0

-- ── Beside a child ──
-- the members of w are the positions that at node x end outside of what is under its child c
pub record Outside (m : Machine) (n r x c w : ℕ) (p : List ℕ) : Type 0 where
  pub found : (P R : XPath) (t : Tree) (d : List ℕ) → Ready P R t m n p → Group t d n r p → Sides P R t d n p 0 → Exactly (word p n ABOVE x) (Above t P R d x)
      → (side : Bool) (y l : ℕ) → Child t side x c → Under t c y → Edge t d x y l → Exactly w (Out t P R d x y)
