-- Snippets of a comparison (P = R) on a tree, and the rule by which they settle it: 01, snippets; 000, 5.2 to 5.5.
use Rattle.std.specs.Prelude.{ℕ, suc, ◌^◌, ◌≤◌, ◌<◌, ◌≡◌, ◌⊎◌, ◌≢◌, List}
use Rattle.xpath.specs.Syntax.{XPath, size}
use Rattle.xpath.specs.Tree.{Tree, Down, Under}
use Rattle.positions.specs.Positions.{second, StartOf, Comes, Ends}

-- p and q belong to different paths
abbrev pub Different : XPath → XPath → ℕ → ℕ → Type 0
Different P R p q = ((p ≤ size P) × (size P < q)) ⊎ ((size P < p) × (q ≤ size P))

module _ (t : Tree) where
  -- x is the closest common ancestor of u and w (a node is its own, with itself)
  pub record Closest (x u w : ℕ) : Type 0 where
    pub left : Under t x u
    pub right : Under t x w
    pub closest : (s : ℕ) → Under t s u → Under t s w → Under t s x

  module _ (d : List ℕ) where
    -- w is in D, the nodes that have the value d
    pub record Has (w : ℕ) : Type 0 where
      pub inside : w < t.size
      pub value : t.value w ≡ d

    -- the skeleton: D with the closest common ancestor of every two nodes of D
    pub record Skeleton (x : ℕ) : Type 0 where
      pub u : ℕ
      pub w : ℕ
      pub has_u : Has u
      pub has_w : Has w
      pub meet : Closest x u w

    -- x is y's nearest proper ancestor in the skeleton, n edges above it
    pub record Edge (x y n : ℕ) : Type 0 where
      pub top : Skeleton x
      pub bottom : Skeleton y
      pub far : Down t x y n
      pub proper : 0 < n
      pub nearest : (s : ℕ) → Skeleton s → Under t s y → s ≢ y → Under t s x

  module _ (P R : XPath) where
    -- (x, y, p, q) is a first snippet, of length n
    pub record First (x y p q n : ℕ) : Type 0 where
      pub d : List ℕ
      pub edge : Edge d x y n
      pub different : Different P R p q
      -- p at x ends at a node of D that is neither y nor below y
      pub outside : (w : ℕ) × Has d w × (¬ Under t y w) × Ends P R t p x w
      -- q at y ends at a node of D that is y or below it
      pub inside : (w : ℕ) × Has d w × Under t y w × Ends P R t q y w

    -- Yielded k x y p q: the snippet (x, y, p, q) of power k is yielded
    pub data Yielded : ℕ → ℕ → ℕ → ℕ → ℕ → Type 0 where
      -- by a first snippet, where k is the exponent of the largest power of two not above its length n
      upper : {k n l x u y p q' q : ℕ} → First x y p q n → 2 ^ k ≤ n → n < 2 ^ suc k
          → Down t x u (2 ^ k) → Down t u y l → Comes P R t q' u q y → Yielded k x u p q'
      lower : {k n l x w y p p' q : ℕ} → First x y p q n → 2 ^ k ≤ n → n < 2 ^ suc k
          → Down t x w l → Down t w y (2 ^ k) → Comes P R t p' w p x → Yielded k w y p' q
      -- by a snippet of power k + 1, with the node h in its middle
      upper_half : {k x h y p q' q : ℕ} → Yielded (suc k) x y p q
          → Down t x h (2 ^ k) → Down t h y (2 ^ k) → Comes P R t q' h q y → Yielded k x h p q'
      lower_half : {k x h y p p' q : ℕ} → Yielded (suc k) x y p q
          → Down t x h (2 ^ k) → Down t h y (2 ^ k) → Comes P R t p' h p x → Yielded k h y p' q

    -- the rule by which a set of snippets, here those of power 0, settles the comparison at v
    abbrev pub SettledBy : (ℕ → ℕ → ℕ → ℕ → Type 0) → ℕ → Type 0
    SettledBy S v =
        ((w : ℕ) × Ends P R t 0 v w × Ends P R t (second P R) v w)
        ⊎ ((x y p q a b : ℕ) × S x y p q × StartOf P R p a × StartOf P R q b × Comes P R t a v p x × Comes P R t b v q y)

    abbrev pub Settled : ℕ → Type 0
    Settled v = SettledBy (Yielded 0) v
