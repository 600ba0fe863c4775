-- Pairs of positions, one of each path, that are settled from a node: both come to a last position at one node, or they come to the two ends of an edge that settles them there.
use Rattle.std.specs.Prelude.{ℕ, ◌<◌, ◌⊎◌, Bool}
use Rattle.xpath.specs.Syntax.{XPath}
use Rattle.xpath.specs.Tree.{Tree, Child}
use Rattle.positions.specs.Positions.{Comes, Ends}

module _ (P R : XPath) (t : Tree) where
  -- from v, one of a and b comes to p at x and the other to q at y
  abbrev pub Meets : ℕ → ℕ → ℕ → ℕ → ℕ → ℕ → ℕ → Type 0
  Meets x y p q v a b = (Comes P R t a v p x × Comes P R t b v q y) ⊎ (Comes P R t a v q y × Comes P R t b v p x)

  module _ (S : ℕ → ℕ → ℕ → ℕ → Type 0) where
    -- both end at one node, or they meet a pair p at x and q at y that S holds of
    abbrev pub Settles : ℕ → ℕ → ℕ → Type 0
    Settles v a b = ((w : ℕ) × Ends P R t a v w × Ends P R t b v w) ⊎ ((x y p q : ℕ) × S x y p q × Meets x y p q v a b)

    -- a family L of pairs of the nodes that has
    pub record Closed (L : ℕ → ℕ → ℕ → Type 0) : Type 0 where
      -- those that end where they are
      pub ended : (v a b : ℕ) → v < t.size → Ends P R t a v v → Ends P R t b v v → L v a b
      -- those that meet what settles them from an end of the edge: x above, y below
      pub top : (side : Bool) (x y p q a b : ℕ) → Child t side x y → S x y p q → Meets x y p q x a b → L x a b
      pub bottom : (side : Bool) (x y p q a b : ℕ) → Child t side x y → S x y p q → Meets x y p q y a b → L y a b
      -- those that come to a pair of a child, or of the parent
      pub rise : (side : Bool) (x y a b a' b' : ℕ) → Child t side x y → Comes P R t a x a' y → Comes P R t b x b' y → L y a' b' → L x a b
      pub fall : (side : Bool) (x y a b a' b' : ℕ) → Child t side x y → Comes P R t a y a' x → Comes P R t b y b' x → L x a' b' → L y a b
