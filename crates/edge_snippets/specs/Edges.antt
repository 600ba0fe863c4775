-- What one edge of a skeleton yields, in the snippets' rows of a comparison's part.
use Rattle.std.specs.Prelude.{ℕ, suc, ◌+◌, ◌^◌, ◌≤◌, ◌<◌, ◌≡◌, ◌⊎◌, ◌↔◌, true, false, List, get_or}
use Rattle.limits.specs.Limits.{positions}
use Rattle.bits.specs.Sets.{bit}
use Rattle.xpath.specs.Syntax.{XPath, size}
use Rattle.xpath.specs.Tree.{Tree, Down}
use Rattle.snippets.specs.Snippets.{Edge}
use Rattle.snippets.specs.Ways.{In, Out}
use Rattle.snippets.specs.Direct.{Upper, Lower}
use Rattle.layout.specs.Blocks.{snippet_at, Rest}
use Rattle.layout.specs.Table.{COLUMNS}
use Rattle.matrices.specs.Matrices.{Exactly, Related}
use Rattle.lifting.specs.Ladder.{Ladder}

-- ── Rows ──
-- the members of w are the positions of the first path
abbrev pub OfFirst : XPath → ℕ → Type 0
OfFirst P w = Exactly w (λ i. i ≤ size P)

-- one of the two is a position of the first path, and the other is none
abbrev pub Opposite : ℕ → ℕ → ℕ → Type 0
Opposite first i j = ((bit first i ≡ true) × (bit first j ≡ false)) ⊎ ((bit first i ≡ false) × (bit first j ≡ true))

-- the pairs of the matrix at an offset, and those of a member of rows with a member of set that is of the other path
abbrev pub Crossed : List ℕ → ℕ → ℕ → ℕ → ℕ → ℕ → ℕ → Type 0
Crossed p at rows set first i j = Related p at i j ⊎ ((bit rows i ≡ true) × (bit set j ≡ true) × Opposite first i j)

-- the snippets' rows have what they had, and what A says
pub record Gains (t : Tree) (n b : ℕ) (A : ℕ → ℕ → ℕ → ℕ → ℕ → Type 0) (p p' : List ℕ) : Type 0 where
  pub rows : (k x y i j : ℕ) → k < b → y < n → Down t x y (2 ^ k) → i < positions → j < positions
      → Related p' (snippet_at n k y) i j ↔ (Related p (snippet_at n k y) i j ⊎ A k x y i j)
  -- nothing where no node lies 2^k above y
  pub top : (k y i : ℕ) → k < b → y < n → i < positions → ((x : ℕ) → ¬ Down t x y (2 ^ k)) → get_or p' (snippet_at n k y + i) 0 ≡ get_or p (snippet_at n k y + i) 0

-- ── The rows of an edge ──
-- what the edge above y yields, where its upper node is x and its length is l
abbrev pub OfEdge : XPath → XPath → Tree → List ℕ → (x y l k a b i j : ℕ) → Type 0
OfEdge P R t d x y l k a b i j = (2 ^ k ≤ l) × (l < 2 ^ suc k) × (Upper t P R d k x y a b i j ⊎ Lower t P R d k x y a b i j)

-- the edge above v with its upper node x and its length, and the positions at its two ends
pub record EdgeAt (P R : XPath) (t : Tree) (d : List ℕ) (n b x v len first inside outside : ℕ) (p : List ℕ) : Type 0 where
  pub ladder : Ladder P R t n b p
  pub node : v < n
  pub edge : Edge t d x v len
  pub ins : Exactly inside (In t P R d v)
  pub outs : Exactly outside (Out t P R d x v)
  pub split : OfFirst P first

-- the rows gain what A says of the edge
pub record Gained (A : XPath → XPath → Tree → List ℕ → ℕ → ℕ → ℕ → ℕ → ℕ → ℕ → Type 0) (n b v len first inside outside : ℕ) (p p' : List ℕ) : Type 0 where
  pub rest : Rest COLUMNS n b p p'
  pub found : (P R : XPath) (t : Tree) (d : List ℕ) (x : ℕ) → EdgeAt P R t d n b x v len first inside outside p → Gains t n b (A P R t d x) p p'

-- the upper part of the edge
abbrev pub UpperPart : ℕ → ℕ → XPath → XPath → Tree → List ℕ → ℕ → ℕ → ℕ → ℕ → ℕ → ℕ → Type 0
UpperPart v len P R t d x k a b i j = (2 ^ k ≤ len) × (len < 2 ^ suc k) × Upper t P R d k x v a b i j

-- the lower part
abbrev pub LowerPart : ℕ → ℕ → XPath → XPath → Tree → List ℕ → ℕ → ℕ → ℕ → ℕ → ℕ → ℕ → Type 0
LowerPart v len P R t d x k a b i j = (2 ^ k ≤ len) × (len < 2 ^ suc k) × Lower t P R d k x v a b i j

-- both
abbrev pub BothParts : ℕ → ℕ → XPath → XPath → Tree → List ℕ → ℕ → ℕ → ℕ → ℕ → ℕ → ℕ → Type 0
BothParts v len P R t d x = OfEdge P R t d x v len
