-- A set of snippets with all that halving yields of it: the last two rules of `Yielded`, from any set to begin with.
use Rattle.std.specs.Prelude.{ℕ, suc, ◌^◌}
use Rattle.xpath.specs.Syntax.{XPath}
use Rattle.xpath.specs.Tree.{Tree, Down}
use Rattle.positions.specs.Positions.{Comes}

-- S k x y i j: the snippet (x, y, i, j) of power k is in S
abbrev pub Family : Type 1
Family = ℕ → ℕ → ℕ → ℕ → ℕ → Type 0

-- D, and all that is yielded by halving
pub data Halved (P R : XPath) (t : Tree) (D : Family) : ℕ → ℕ → ℕ → ℕ → ℕ → Type 0 where
  direct : {k x y p q : ℕ} → D k x y p q → Halved P R t D k x y p q
  upper_half : {k x h y p q' q : ℕ} → Halved P R t D (suc k) x y p q
      → Down t x h (2 ^ k) → Down t h y (2 ^ k) → Comes P R t q' h q y → Halved P R t D k x h p q'
  lower_half : {k x h y p p' q : ℕ} → Halved P R t D (suc k) x y p q
      → Down t x h (2 ^ k) → Down t h y (2 ^ k) → Comes P R t p' h p x → Halved P R t D k h y p' q
