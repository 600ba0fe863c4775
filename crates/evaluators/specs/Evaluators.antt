-- What the driver may expect of an evaluator of a comparison, whichever it is.
use Rattle.std.specs.Prelude.{ℕ, ◌+◌, ◌*◌, ◌≤◌, ◌≡◌, List, length}
use Rattle.lists.specs.Lists.{Number}
use Rattle.lists.specs.Text.{binary_digits}
use Rattle.limits.specs.Limits.{words_per_digit, part_words}
use Rattle.xpath.specs.Syntax.{Op, Test, XPath, empty, compare, compare_to}
use Rattle.xpath.specs.Tree.{Tree, WellFormed}
use Rattle.xpath.specs.Meaning.{Holds}
use Rattle.snippets.specs.Count.{Counted}
use Rattle.snippets.specs.Values.{SettlesBy, IsSnippetBy}
use Rattle.rule_parts.specs.Kinds.{operator}
use Rattle.rule_parts.specs.declared.kinds.Operator.{Operator}
use Rattle.test_numbers.specs.Owned.{own}
use Rattle.machine.specs.declared.Machine.{Machine}
use Rattle.machine.specs.Meaning.{IsMachine, Drawn, RanksTell, Judges}
use Rattle.plain.specs.Plain.{Answered}
use Rattle.evaluators.specs.declared.Evaluator.{Evaluator}
use Rattle.evaluators.specs.declared.Evaluator.TheVariants.{Plain, Snippets}

-- a comparison's part is all that 01 gives behind the tree's own 16 words a node
abbrev pub PartRoom : ℕ → List ℕ → Type 0
PartRoom n p = (part_words + words_per_digit * binary_digits n) * n ≤ length p

-- a comparison of two paths by the sign o on a tree, and the words that stand for it
pub record Posed (o : Op) (P R : XPath) (t : Tree) (m : Machine) (n : ℕ) (p : List ℕ) : Type 0 where
  pub formed : WellFormed t
  pub machine : IsMachine P R m
  pub drawn : Drawn P R t n p
  pub ranks : RanksTell o t n p

-- a comparison of a path with a constant, in the same way; the second path is then the empty one, and the words say where the constant is hit
pub record PosedTo (o : Op) (P : XPath) (c : List ℕ) (t : Tree) (m : Machine) (n : ℕ) (p : List ℕ) : Type 0 where
  pub formed : WellFormed t
  pub machine : IsMachine P empty m
  pub drawn : Drawn P empty t n p
  pub hits : Judges o c t n p

-- some comparison on some tree stands in the part
abbrev pub Staged : Operator → Machine → ℕ → List ℕ → Type 0
Staged o m n p = (P R : XPath) × (t : Tree) × (q : Op) × (o ≡ operator q) × Posed q P R t m n p

abbrev pub StagedTo : Machine → ℕ → List ℕ → Type 0
StagedTo m n p = (P : XPath) × (t : Tree) × (q : Op) × (c : List ℕ) × PosedTo q P c t m n p

-- the snippets of a test: the plain evaluation has none, and the snippet evaluation those of an equality between two paths
abbrev pub Adds : Evaluator → Tree → Test → ℕ → Type 0
Adds Plain t T r = r ≡ 0
Adds Snippets t T r = Counted t (own T) r

-- answered as the definition says
pub record Compared (e : Evaluator) (t : Tree) (o : Op) (P R : XPath) (n : ℕ) (p p' : List ℕ) (r : ℕ) : Type 0 where
  pub answered : Answered n (Holds t (compare o P R)) p p'
  pub adds : Adds e t (compare o P R) r

-- an equality by the values in a list of nodes: what these yield is counted, and the answers are what it settles
pub record ComparedBy (vs : List ℕ) (t : Tree) (P R : XPath) (n : ℕ) (p p' : List ℕ) (r : ℕ) : Type 0 where
  pub answered : Answered n (SettlesBy t vs P R) p p'
  pub count : Number (IsSnippetBy t vs (record { first = P; second = R })) r

-- the same with a constant
abbrev pub Hit : Machine → ℕ → List ℕ → List ℕ → Type 0
Hit m n p p' = (P : XPath) (t : Tree) (q : Op) (c : List ℕ) → PosedTo q P c t m n p → Answered n (Holds t (compare_to q P c)) p p'
