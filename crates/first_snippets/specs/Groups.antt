-- What the first snippets of one value yield directly, in the columns and the rows of a comparison's part.
use Rattle.std.specs.Prelude.{ℕ, ◌<◌, ◌≡◌, List}
use Rattle.lists.specs.Lists.{Occurs}
use Rattle.xpath.specs.Syntax.{XPath}
use Rattle.xpath.specs.Tree.{Tree}
use Rattle.snippets.specs.Snippets.{Skeleton, Edge}
use Rattle.snippets.specs.Ways.{Above}
use Rattle.snippets.specs.Direct.{Direct}
use Rattle.snippets.specs.Values.{DirectBy}
use Rattle.layout.specs.Groups.{MARKED, ABOVE}
use Rattle.layout.specs.Table.{RANK}
use Rattle.layout.specs.Words.{word}
use Rattle.machine.specs.declared.Machine.{Machine}
use Rattle.matrices.specs.Matrices.{Exactly}
use Rattle.powers.specs.Powers.{Founded}
use Rattle.powers.specs.Blocks.{BlockRoom}
use Rattle.buckets.specs.Buckets.{Buckets}
use Rattle.group_marks.specs.Groups.{Ranks}
use Rattle.group_ends.specs.Ends.{Enough}
use Rattle.layout.specs.Blocks.{Rest}
use Rattle.edge_snippets.specs.Edges.{OfFirst, Gains, OfEdge}

-- ── What is found ──
module _ (P R : XPath) (t : Tree) (d : List ℕ) where
  -- what the edge above y yields, if there is one
  abbrev pub Yields : (y k a b i j : ℕ) → Type 0
  Yields y k a b i j = (x l : ℕ) × Edge t d x y l × OfEdge P R t d x y l k a b i j

  -- the skeleton nodes before v have their positions from above
  abbrev pub Sunk : ℕ → List ℕ → ℕ → Type 0
  Sunk n p v = (u : ℕ) → u < v → Skeleton t d u → Exactly (word p n ABOVE u) (Above t P R d u)

-- ── The snippets of one value ──
-- some comparison is given with its loops and its powers, and the nodes by rank
pub record Base (m : Machine) (n b : ℕ) (p : List ℕ) : Type 0 where
  pub first : XPath
  pub second : XPath
  pub tree : Tree
  pub founded : Founded first second tree m n b p
  pub buckets : Buckets n p
  pub enough : Enough tree b
  pub sizes : BlockRoom n b p

-- and the rank r is that of some value
pub record Grounds (m : Machine) (n b r : ℕ) (p : List ℕ) : Type 0 where
  pub base : Base m n b p
  pub rank : r < n
  pub value : List ℕ
  pub ranks : Ranks base.tree value n r p

-- the rows have what the first snippets of the value of rank r yield; the columns before that of the marks stay
pub record Added (m : Machine) (n b first r : ℕ) (p p' : List ℕ) : Type 0 where
  pub rest : Rest MARKED n b p p'
  pub found : (P R : XPath) (t : Tree) (d : List ℕ) → Founded P R t m n b p → Ranks t d n r p → OfFirst P first
      → Gains t n b (Direct t P R d) p p'

-- ── The snippets of several values ──
-- what the first snippets of the values yield whose rank is in S
abbrev pub OfRanks : (ℕ → Type 0) → XPath → XPath → Tree → ℕ → List ℕ → (k x y i j : ℕ) → Type 0
OfRanks S P R t n p k x y i j = (w : ℕ) × (w < n) × S (word p n RANK w) × Direct t P R (t.value w) k x y i j

-- the rows have it
pub record AddedOf (S : ℕ → Type 0) (m : Machine) (n b first : ℕ) (p p' : List ℕ) : Type 0 where
  pub rest : Rest MARKED n b p p'
  pub found : (P R : XPath) (t : Tree) → Founded P R t m n b p → OfFirst P first → Gains t n b (OfRanks S P R t n p) p p'

-- ── A list of values ──
-- the rank z is that of a node in the list
abbrev pub RankIn : List ℕ → ℕ → List ℕ → ℕ → Type 0
RankIn vs n p z = (w : ℕ) × Occurs w vs × (word p n RANK w ≡ z)

-- the rows have what the first snippets of the values in the list yield
pub record AddedBy (vs : List ℕ) (m : Machine) (n b first : ℕ) (p p' : List ℕ) : Type 0 where
  pub rest : Rest MARKED n b p p'
  pub found : (P R : XPath) (t : Tree) → Founded P R t m n b p → OfFirst P first → Gains t n b (DirectBy t vs P R) p p'

-- some node has the rank r
abbrev pub Somewhere : ℕ → ℕ → List ℕ → Type 0
Somewhere n r p = (w : ℕ) × (w < n) × (word p n RANK w ≡ r)

-- no two nodes have it
abbrev pub Alone : ℕ → ℕ → List ℕ → Type 0
Alone n r p = (u w : ℕ) → u < n → w < n → word p n RANK u ≡ r → word p n RANK w ≡ r → u ≡ w
