-- Two libraries that differ in their values alone, and that no sign tells apart: 02 (n), names masked.
--   constants        the constants of a rule
--   SameSigns        all six signs come out the same on two pairs of values
--   Masked           what is supposed of two libraries and a rule's test
--   MaskedDocuments  two documents and a rule that spell such
--   Unaltered        what two evaluations then have in common
use Rattle.std.specs.Prelude.{ℕ, ◌<◌, ◌≡◌, ◌↔◌, List, [], ◌∷◌, ◌++◌, length, get_or}
use Rattle.lists.specs.Lists.{Occurs}
use Rattle.lists.specs.Blanks.{trim}
use Rattle.xpath.specs.Syntax.{Op, Test, named, not, and, or, compare, compare_to, at_least, XPath, empty, one, seq, union, star, Step, to_left, to_right, from_left, from_right, stay}
use Rattle.xpath.specs.Meaning.{Rel}
use Rattle.document_spec.specs.Library.{Node, at}
use Rattle.document_spec.specs.Binary.{compared_of}
use Rattle.document_spec.specs.Verdict as Document
use Rattle.rule_spec.specs.Verdict as Rule
use Rattle.evaluation_spec.specs.Evaluation.{Outcome}

-- the constants of a rule, wherever in it they stand
abbrev mutual
  pub constants : Test → List (List ℕ)
  constants (named n) = []
  constants (not T) = constants T
  constants (and T U) = constants T ++ constants U
  constants (or T U) = constants T ++ constants U
  constants (compare o P Q) = in_path P ++ in_path Q
  constants (compare_to o P c) = c ∷ in_path P
  constants (at_least n P) = in_path P

  pub in_path : XPath → List (List ℕ)
  in_path empty = []
  in_path (one s) = in_step s
  in_path (seq P Q) = in_path P ++ in_path Q
  in_path (union P Q) = in_path P ++ in_path Q
  in_path (star P) = in_path P

  pub in_step : Step → List (List ℕ)
  in_step to_left = []
  in_step to_right = []
  in_step from_left = []
  in_step from_right = []
  in_step (stay T) = constants T

-- each of the six signs holds of b and c exactly if it holds of b' and c'
abbrev pub SameSigns : (b c b' c' : List ℕ) → Type 0
SameSigns b c b' c' = (o : Op) → Rel o b c ↔ Rel o b' c'

-- what is supposed of two libraries and a rule's test
pub record Masked (T : Test) (ns ns' : List Node) : Type 0 where
  -- alike in depths, kinds and labels
  pub nodes : length ns ≡ length ns'
  pub depths : (v : ℕ) → v < length ns → (at ns v).depth ≡ (at ns' v).depth
  pub kinds : (v : ℕ) → v < length ns → (at ns v).kind ≡ (at ns' v).kind
  pub labels : (v : ℕ) → v < length ns → (at ns v).label ≡ (at ns' v).label
  -- the signs on the compared values of each two nodes, in either order; v and w may be one node
  pub values : (v w : ℕ) → v < length ns → w < length ns → SameSigns (compared_of ns v) (compared_of ns w) (compared_of ns' v) (compared_of ns' w)
  -- and on each node's value against each constant, whose blanks at the ends do not count
  pub against : (v : ℕ) → v < length ns → (c : List ℕ) → Occurs c (constants T) → SameSigns (compared_of ns v) (trim c) (compared_of ns' v) (trim c)

-- two documents and a rule, all accepted, as a site sends them
pub record MaskedDocuments (document document' rule : List ℕ) : Type 0 where
  pub ns : List Node
  pub ns' : List Node
  pub T : Test
  pub library : Document.Accepts document ns
  pub library' : Document.Accepts document' ns'
  pub test : Rule.Accepts rule T
  pub masked : Masked T ns ns'

-- ── What follows ──
-- two accepted evaluations of one kind have this in common, where n is the number of nodes
pub record Unaltered (n : ℕ) (o o' : Outcome) (marks marks' : List ℕ) : Type 0 where
  pub selected : o.selected ≡ o'.selected
  pub snippets : o.snippets ≡ o'.snippets
  pub marked : (v : ℕ) → v < n → get_or marks v 0 ≡ get_or marks' v 0
