-- The steps of a comparison's two paths P and R, numbered 1 to m as written: 01, snippets. 0 is P's start and m + 1 is R's start.
use Rattle.std.specs.Prelude.{ℕ, suc, ◌+◌, ◌≤◌, ◌<◌, ◌≡◌, ◌⊎◌, List, [], ◌∷◌, ◌++◌}
use Rattle.xpath.specs.Syntax.{XPath, empty, one, seq, union, star, Step, steps, size}
use Rattle.xpath.specs.Tree.{Tree}
use Rattle.xpath.specs.Meaning.{Moves}

-- number j is step s, where the list is numbered from b
abbrev pub Numbered : ℕ → List Step → ℕ → Step → Type 0
Numbered b [] j s = ⊥
Numbered b (x ∷ xs) j s = ((j ≡ b) × (x ≡ s)) ⊎ Numbered (suc b) xs j s

-- some words of W, one after the other
pub data Several (W : List ℕ → Type 0) : List ℕ → Type 0 where
  none : Several W []
  more : {u w : List ℕ} → W u → Several W w → Several W (u ++ w)

-- the words of a path, its steps told apart: they are numbered from b
abbrev pub Word : XPath → ℕ → List ℕ → Type 0
Word empty b ws = ws ≡ []
Word (one s) b ws = ws ≡ b ∷ []
Word (seq P Q) b ws = (u w : List ℕ) × (ws ≡ u ++ w) × Word P b u × Word Q (b + size P) w
Word (union P Q) b ws = Word P b ws ⊎ Word Q (b + size P) ws
Word (star P) b ws = Several (λ u. Word P b u) ws

module _ (P R : XPath) where
  -- R's start
  abbrev pub second : ℕ
  second = suc (size P + size R)

  -- a word of one of the two paths, with that path's start in front
  unfoldable pub Full : List ℕ → Type 0
  Full ws =
      ((u : List ℕ) × (ws ≡ 0 ∷ u) × Word P 1 u)
      ⊎ ((u : List ℕ) × (ws ≡ second ∷ u) × Word R (suc (size P)) u)

  -- some word has j right after i; a first step follows its path's start
  unfoldable pub Follows : ℕ → ℕ → Type 0
  Follows i j = (u w : List ℕ) × Full (u ++ i ∷ j ∷ w)

  -- some word ends in i; a start is last if the empty word belongs to its path
  unfoldable pub IsLast : ℕ → Type 0
  IsLast i = (u : List ℕ) × Full (u ++ i ∷ [])

  -- s is the start of the path that p belongs to
  abbrev pub StartOf : ℕ → ℕ → Type 0
  StartOf p s = ((p ≤ size P) × (s ≡ 0)) ⊎ ((size P < p) × (s ≡ second))

  module _ (t : Tree) where
    -- i at v comes to j at w: a chain of following positions, possibly none, leads from v to w with every test on the way holding
    pub data Comes : ℕ → ℕ → ℕ → ℕ → Type 0 where
      here : {i v : ℕ} → Comes i v i v
      on : {i v j u k w : ℕ} (s : Step) → Follows i j → Numbered 1 (steps P ++ steps R) j s → Moves t s v u → Comes j u k w → Comes i v k w

    -- i at v ends at w: it comes to a last position at w
    abbrev pub Ends : ℕ → ℕ → ℕ → Type 0
    Ends i v w = (j : ℕ) × IsLast j × Comes i v j w
