-- A set of snippets of all powers, as it stands in the blocks: what it grows to by halving, and how many snippets it has.
use Rattle.std.specs.Prelude.{ℕ, ◌+◌, ◌^◌, ◌≤◌, ◌<◌, ◌≡◌, ◌↔◌, List}
use Rattle.lists.specs.Lists.{Number}
use Rattle.limits.specs.Limits.{positions, comparison_steps}
use Rattle.xpath.specs.Syntax.{XPath, size}
use Rattle.xpath.specs.Tree.{Tree, WellFormed, Down}
use Rattle.snippets.specs.Count.{Snippet}
use Rattle.snippets.specs.Halves.{Family, Halved}
use Rattle.matrices.specs.Matrices.{Related}
use Rattle.layout.specs.Blocks.{snippet_at, Aside}
use Rattle.layout.specs.Words.{Same}
use Rattle.powers.specs.Powers.{Powers}

-- ── A set and its words ──
module _ (t : Tree) (n b : ℕ) where
  -- the bounds of the words: exponents below b, nodes below n, positions below 16
  pub record Inside (k x y i j : ℕ) : Type 0 where
    pub power : k < b
    pub lower : y < n
    pub apart : Down t x y (2 ^ k)
    pub first : i < positions
    pub second : j < positions

  -- all snippets of S keep to the bounds
  abbrev pub Within : Family → Type 0
  Within S = (k x y i j : ℕ) → S k x y i j → Inside k x y i j

  module _ (p : List ℕ) where
    -- the words are those of S: where no node lies 2^k above y, they have nothing
    pub record Sets (S : Family) : Type 0 where
      pub same : (k y i j : ℕ) → k < b → y < n → i < positions → j < positions
          → Related p (snippet_at n k y) i j ↔ ((x : ℕ) × Down t x y (2 ^ k) × S k x y i j)

    -- the words have the snippet
    pub record Marked (k x y i j : ℕ) : Type 0 where
      pub inside : Inside k x y i j
      pub marked : Related p (snippet_at n k y) i j

    -- the words have nothing where no node lies 2^k above y
    pub record Topped : Type 0 where
      pub top : (k y i j : ℕ) → k < b → y < n → i < positions → j < positions → Related p (snippet_at n k y) i j → (x : ℕ) × Down t x y (2 ^ k)

-- ── Halving ──
-- p holds the powers of a tree of n nodes for two paths, and snippets of it
pub record Prepared (P R : XPath) (t : Tree) (n b : ℕ) (p : List ℕ) : Type 0 where
  pub formed : WellFormed t
  pub whole : t.size ≡ n
  pub few : size P + size R ≤ comparison_steps
  pub powers : Powers P R t n p b
  pub topped : Topped t n b p

-- the snippets that stand in p are halved in p', and no word but theirs may be different
pub record Halving (n b : ℕ) (p p' : List ℕ) : Type 0 where
  pub same : Same (Aside n b) p p'
  pub sets : (P R : XPath) (t : Tree) → Prepared P R t n b p → Sets t n b p' (Halved P R t (Marked t n b p))

-- ── The number of snippets ──
abbrev pub Belongs : Family → Snippet → Type 0
Belongs S s = S s.power s.x s.y s.p s.q

-- p has r snippets, on whatever tree they lie
pub record Counts (n b : ℕ) (p : List ℕ) (r : ℕ) : Type 0 where
  pub number : (t : Tree) → WellFormed t → Topped t n b p → Number (Belongs (Marked t n b p)) r
