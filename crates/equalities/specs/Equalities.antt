-- What the evaluation of an equality between two paths by snippets leaves, where it takes the values in a list of nodes.
use Rattle.std.specs.Prelude.{ℕ, ◌<◌, ◌≡◌, ◌⊎◌, List, length}
use Rattle.lists.specs.Lists.{Number}
use Rattle.xpath.specs.Syntax.{XPath, compare, eq}
use Rattle.xpath.specs.Tree.{Tree}
use Rattle.xpath.specs.Meaning.{Holds}
use Rattle.snippets.specs.Count.{IsSnippet}
use Rattle.snippets.specs.Values.{EachValueOnce, SettlesBy, IsSnippetBy}
use Rattle.layout.specs.Part.{ANSWER}
use Rattle.layout.specs.Words.{word}
use Rattle.machine.specs.declared.Machine.{Machine}
use Rattle.loops.specs.Loops.{Stage}

-- 1 at the nodes that are A, and else 0
abbrev pub Answers : (ℕ → Type 0) → ℕ → List ℕ → Type 0
Answers A n p = (v : ℕ) → v < n → (A v × (word p n ANSWER v ≡ 1)) ⊎ ((¬ A v) × (word p n ANSWER v ≡ 0))

pub record Evaluated (vs : List ℕ) (m : Machine) (n : ℕ) (p p' : List ℕ) (r : ℕ) : Type 0 where
  pub long : length p' ≡ length p
  -- the values in the list yield r snippets, and the answers are what these settle
  pub found : (P R : XPath) (t : Tree) → Stage P R t m n p
      → Number (IsSnippetBy t vs (record { first = P; second = R })) r × Answers (SettlesBy t vs P R) n p'
  -- with any list that holds each value once, count and answers are those of the definition
  pub whole : (P R : XPath) (t : Tree) → Stage P R t m n p → EachValueOnce t vs
      → Number (IsSnippet t (record { first = P; second = R })) r × Answers (Holds t (compare eq P R)) n p'
