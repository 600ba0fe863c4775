-- The snippets that the first snippets of one value yield, and where they lie on the edges of its skeleton.
use Rattle.std.specs.Prelude.{ℕ, suc, ◌^◌, ◌≤◌, ◌<◌, ◌≡◌, List}
use Rattle.xpath.specs.Syntax.{XPath}
use Rattle.xpath.specs.Tree.{Tree, Down, Under}
use Rattle.positions.specs.Positions.{Comes}
use Rattle.snippets.specs.Snippets.{Different, Edge}
use Rattle.snippets.specs.Ways.{In, Out}

module _ (t : Tree) (P R : XPath) (d : List ℕ) where
  -- (x, y, p, q) is a first snippet of the value d, of length n
  pub record FirstOf (x y p q n : ℕ) : Type 0 where
    pub edge : Edge t d x y n
    pub different : Different P R p q
    pub outside : Out t P R d x y p
    pub inside : In t P R d y q

  -- Direct k a b p q: a first snippet of the value d yields (a, b, p, q), of power k
  pub data Direct : ℕ → ℕ → ℕ → ℕ → ℕ → Type 0 where
    upper : {k n l x u y p q' q : ℕ} → FirstOf x y p q n → 2 ^ k ≤ n → n < 2 ^ suc k
        → Down t x u (2 ^ k) → Down t u y l → Comes P R t q' u q y → Direct k x u p q'
    lower : {k n l x w y p p' q : ℕ} → FirstOf x y p q n → 2 ^ k ≤ n → n < 2 ^ suc k
        → Down t x w l → Down t w y (2 ^ k) → Comes P R t p' w p x → Direct k w y p' q

  -- (a, b, p, q) is on the upper 2 ^ k edges of the edge from x to y
  pub record Upper (k x y a b p q : ℕ) : Type 0 where
    pub top : a ≡ x
    pub far : Down t x b (2 ^ k)
    pub rest : Under t b y
    pub outside : Out t P R d x y p
    pub q₀ : ℕ
    pub inside : In t P R d y q₀
    pub comes : Comes P R t q b q₀ y
    pub different : Different P R p q

  -- and on its lower 2 ^ k edges
  pub record Lower (k x y a b p q : ℕ) : Type 0 where
    pub bottom : b ≡ y
    pub rest : Under t x a
    pub far : Down t a y (2 ^ k)
    pub p₀ : ℕ
    pub outside : Out t P R d x y p₀
    pub comes : Comes P R t p a p₀ x
    pub inside : In t P R d y q
    pub different : Different P R p q
