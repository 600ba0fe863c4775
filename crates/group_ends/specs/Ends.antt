-- Where a comparison's paths end among the nodes of one value: what is given, and the positions at each skeleton node that end inside it or beside it.
use Rattle.std.specs.Prelude.{ℕ, ◌^◌, ◌≤◌, ◌<◌, Bool, true, false, List}
use Rattle.xpath.specs.Syntax.{XPath}
use Rattle.xpath.specs.Tree.{Tree, Down}
use Rattle.snippets.specs.Snippets.{Skeleton}
use Rattle.snippets.specs.Ways.{In, FromChild}
use Rattle.layout.specs.Groups.{IN, LEFTIN, RIGHTIN}
use Rattle.layout.specs.Words.{word}
use Rattle.machine.specs.declared.Machine.{Machine}
use Rattle.matrices.specs.Matrices.{Exactly}
use Rattle.powers.specs.Powers.{Founded}
use Rattle.powers.specs.Blocks.{BlockRoom}
use Rattle.group_marks.specs.Groups.{Group}

-- what comes from the next skeleton node on a side
abbrev pub inward : Bool → ℕ
inward true = LEFTIN
inward false = RIGHTIN

-- ── What is given ──
-- a comparison of two paths on a tree with its loops and its powers, and the marks of the nodes of rank r, which have the value d
pub record Setting (P R : XPath) (t : Tree) (d : List ℕ) (m : Machine) (n b r : ℕ) (p : List ℕ) : Type 0 where
  pub founded : Founded P R t m n b p
  pub group : Group t d n r p

-- the powers below b are enough for every way down the tree
abbrev pub Enough : Tree → ℕ → Type 0
Enough t b = (x y l : ℕ) → Down t x y l → l < 2 ^ b

-- some comparison and some value are given
pub record Given (m : Machine) (n b r : ℕ) (p : List ℕ) : Type 0 where
  pub first : XPath
  pub second : XPath
  pub tree : Tree
  pub value : List ℕ
  pub setting : Setting first second tree value m n b r p
  pub enough : Enough tree b
  pub sizes : BlockRoom n b p

-- ── What is found ──
module _ (P R : XPath) (t : Tree) (d : List ℕ) (n : ℕ) (p : List ℕ) where
  -- the positions that come from the next skeleton nodes, as far as these are v or behind it
  abbrev pub Sides : ℕ → Type 0
  Sides v = (side : Bool) (x : ℕ) → Skeleton t d x → Exactly (word p n (inward side) x) (λ i. (f : FromChild t P R d side x i) × (v ≤ f.y))

  -- the skeleton nodes from v on have their positions, and have handed them up
  pub record Risen (v : ℕ) : Type 0 where
    pub inside : (u : ℕ) → v ≤ u → Skeleton t d u → Exactly (word p n IN u) (In t P R d u)
    pub sides : Sides v
