-- The snippets that some of the values of a comparison yield: 02, (k). A list of nodes stands for the values of these nodes.
--   ValueIn t vs d         d is the value of a node in the list
--   EachValueOnce t vs     the list has each value of the tree once
--   YieldedBy t vs P R     the snippets that the values in the list yield
--   IsSnippetBy t vs c     the same, of an equality
--   SettlesBy t vs P R v   these snippets settle the equality at v
--   CountBy t vs P R n     how many there are, with those of nested equalities
use Rattle.std.specs.Prelude.{ℕ, ◌+◌, ◌<◌, ◌≡◌, List, ◌++◌, map}
use Rattle.lists.specs.Lists.{All, Occurs, Distinct, Number}
use Rattle.xpath.specs.Syntax.{XPath}
use Rattle.xpath.specs.Tree.{Tree}
use Rattle.snippets.specs.Snippets.{SettledBy}
use Rattle.snippets.specs.Count.{Snippet, Pair, in_path, Counted}
use Rattle.snippets.specs.Direct.{Direct}
use Rattle.snippets.specs.Halves.{Family, Halved}

module _ (t : Tree) (vs : List ℕ) where
  -- d is the value of a node in the list
  abbrev pub ValueIn : List ℕ → Type 0
  ValueIn d = (w : ℕ) × Occurs w vs × (t.value w ≡ d)

  -- the list holds each of the values once: those of all nodes, one of them named by one node
  pub record EachValueOnce : Type 0 where
    pub nodes : All (λ w. w < t.size) vs
    pub every : (v : ℕ) → v < t.size → ValueIn (t.value v)
    pub once : Distinct (map t.value vs)

  module _ (P R : XPath) where
    -- a first snippet of a value in the list yields it
    abbrev pub DirectBy : Family
    DirectBy k x y p q = (d : List ℕ) × ValueIn d × Direct t P R d k x y p q

    -- the values in the list yield it, by a first snippet or by halving
    abbrev pub YieldedBy : Family
    YieldedBy k x y p q = Halved P R t DirectBy k x y p q

    -- the settling rule, read on the snippets of power 0 that they yield
    abbrev pub SettlesBy : ℕ → Type 0
    SettlesBy v = SettledBy t P R (λ x y p q. YieldedBy 0 x y p q) v

  abbrev pub IsSnippetBy : Pair → Snippet → Type 0
  IsSnippetBy c s = YieldedBy c.first c.second s.power s.x s.y s.p s.q

  -- n is the number of distinct snippets that the values in the list yield for (P=R), and of all snippets of the equalities nested in it, added
  abbrev pub CountBy : XPath → XPath → ℕ → Type 0
  CountBy P R n = (a b : ℕ) × (n ≡ a + b) × Number (IsSnippetBy (record { first = P; second = R })) a × Counted t (in_path P ++ in_path R) b
