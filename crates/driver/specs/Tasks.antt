-- Settling the tests of a rule one by one, in any order that has inner ones first.
use Rattle.std.specs.Prelude.{ℕ, ◌+◌, ◌*◌, ◌≤◌, ◌<◌, ◌≡◌, ◌⊎◌, ◌≢◌, ◌↔◌, true, List, map, length, drop}
use Rattle.std.proofs.Math.Seq.{slice}
use Rattle.lists.specs.Lists.{Occurs, Number}
use Rattle.limits.specs.Limits.{scratch_words, rule_tests, comparison_steps}
use Rattle.xpath.specs.Syntax.{Op, Test, named, not, and, or, compare, compare_to, at_least, XPath, empty, size}
use Rattle.xpath.specs.Tree.{Tree}
use Rattle.xpath.specs.Meaning.{Holds}
use Rattle.snippets.specs.Count.{Counted}
use Rattle.snippets.specs.Values.{SettlesBy, IsSnippetBy, CountBy}
use Rattle.document_spec.specs.Library.{Node}
use Rattle.document_spec.specs.Binary.{tree_of}
use Rattle.document_spec.specs.Verdict as Document
use Rattle.rule_spec.specs.Verdict as Rule
use Rattle.layout.specs.Part.{STAYS}
use Rattle.layout.specs.Table.{COLUMNS, LEFT, TESTS}
use Rattle.layout.specs.Words.{word, Frame, Within}
use Rattle.table.specs.Links.{Linked}
use Rattle.value_notes.specs.Notes.{Annotated}
use Rattle.ranks.specs.Ranks.{Ranked}
use Rattle.amounts.specs.Weighed.{Weighed}
use Rattle.rule_parts.specs.Standing.{TestAt, PathAt}
use Rattle.rule_parts.specs.Kinds.{operator}
use Rattle.rule_parts.specs.declared.kinds.Operator.{Operator}
use Rattle.rule_parts.specs.declared.kinds.TestKind.{TestKind}
use Rattle.rule_parts.specs.declared.kinds.TestKind.TheVariants.{Named, Not, And, Or, Comparison, Count}
use Rattle.machine.specs.declared.Machine.{Machine}
use Rattle.machine.specs.Meaning.{IsMachine, Drawn}
use Rattle.test_bits.specs.Columns.{held}
use Rattle.test_numbers.specs.Tests.{tests_of, path_tests, test}
use Rattle.test_numbers.specs.Orders.{Inside, InnerFirst, EachTest}
use Rattle.test_numbers.specs.Owned.{owned}
use Rattle.test_places.specs.Places.{Listed}
use Rattle.evaluators.specs.declared.Evaluator.{Evaluator}
use Rattle.evaluators.specs.Evaluators.{Posed, Adds}
use Rattle.evaluators.specs.declared.Evaluator.TheVariants.{Plain, Snippets}

-- ── What a test finds ──
-- the scratch holds the tree of the accepted document, the notes of its values, their ranks and those of their amounts
pub record Scene (s : List ℕ) (ns : List Node) (n : ℕ) (t : List ℕ) : Type 0 where
  pub library : Document.Accepts s ns
  pub size : length ns ≡ n
  pub linked : Linked s ns t
  pub annotated : Annotated s n t
  pub ranked : Ranked ns t
  pub weighed : Weighed ns t
  pub room : scratch_words n ≤ length t

-- bit k says where the test holds
abbrev pub Tells : List Node → ℕ → ℕ → Test → List ℕ → Type 0
Tells ns n k T t = (v : ℕ) → v < n → (held t n k v ≡ true) ↔ Holds (tree_of ns) T v

-- test k is due: it stands at an offset of the accepted rule T, and the tests inside it are settled
pub record Task (s rule : List ℕ) (ns : List Node) (T : Test) (n at k : ℕ) (t : List ℕ) : Type 0 where
  pub scene : Scene s ns n t
  pub accepts : Rule.Accepts rule T
  pub number : k < length (tests_of T)
  pub end : ℕ
  pub stands : TestAt rule (test (tests_of T) k) at end
  pub inner : (i : ℕ) → Inside T k i → Tells ns n i (test (tests_of T) i) t

-- ── What a test is ──
-- what a test of a kind looks like
abbrev pub Shape : TestKind → Test → Type 0
Shape Named T = (a : List ℕ) × (T ≡ named a)
Shape Not T = (U : Test) × (T ≡ not U)
Shape And T = (U W : Test) × (T ≡ and U W)
Shape Or T = (U W : Test) × (T ≡ or U W)
Shape Comparison T = ((o : Op) × (P R : XPath) × (T ≡ compare o P R)) ⊎ ((o : Op) × (P : XPath) × (c : List ℕ) × (T ≡ compare_to o P c))
Shape Count T = (m : ℕ) × (P : XPath) × (T ≡ at_least m P)

-- test k is the comparison of two paths, the first behind its bracket and the second at an offset
pub record Paths (s rule : List ℕ) (ns : List Node) (T : Test) (n at k : ℕ) (t : List ℕ) (behind : ℕ) (o : Operator) : Type 0 where
  pub task : Task s rule ns T n at k t
  pub sign : Op
  pub first : XPath
  pub second : XPath
  pub is : test (tests_of T) k ≡ compare sign first second
  pub told : o ≡ operator sign
  pub first_end : ℕ
  pub first_at : PathAt rule first (at + 1) first_end
  pub second_end : ℕ
  pub second_at : PathAt rule second behind second_end

-- test k is the comparison of a path with the constant that stands from one offset up to another
pub record Constant (s rule : List ℕ) (ns : List Node) (T : Test) (n at k : ℕ) (t : List ℕ) (start stop : ℕ) (o : Operator) : Type 0 where
  pub task : Task s rule ns T n at k t
  pub sign : Op
  pub first : XPath
  pub is : test (tests_of T) k ≡ compare_to sign first (slice start stop rule)
  pub told : o ≡ operator sign
  pub first_end : ℕ
  pub first_at : PathAt rule first (at + 1) first_end
  pub ordered : start ≤ stop
  pub inside : stop ≤ length rule

-- ── One path ──
-- the path P stands at an offset, and the tests in its brackets, which have the numbers from k on, are settled
pub record Ready (s rule : List ℕ) (ns : List Node) (P : XPath) (n at k : ℕ) (t : List ℕ) : Type 0 where
  pub scene : Scene s ns n t
  pub end : ℕ
  pub stands : PathAt rule P at end
  pub light : size P ≤ comparison_steps
  pub room : k + length (path_tests P) ≤ rule_tests
  pub settled : (e : ℕ) → e < length (path_tests P) → Tells ns n (k + e) (test (path_tests P) e) t

-- m is its machine, with an empty second path, and the tree and the tests in its brackets are drawn behind the table
pub record PathDrawn (ns : List Node) (n : ℕ) (P : XPath) (m : Machine) (t t' : List ℕ) : Type 0 where
  pub machine : IsMachine P empty m
  pub within : Within n (COLUMNS + LEFT) (COLUMNS + STAYS + 1) t t'
  pub drawn : Drawn P empty (tree_of ns) n (drop (COLUMNS * n) t')

-- ── Two paths ──
-- m is their machine, and the tree, the ranks that the sign compares and the tests in their brackets are drawn behind the table
pub record PathsDrawn (ns : List Node) (n : ℕ) (o : Op) (P R : XPath) (m : Machine) (t t' : List ℕ) : Type 0 where
  pub within : Within n (COLUMNS + LEFT) (COLUMNS + STAYS + 1) t t'
  pub posed : Posed o P R (tree_of ns) m n (drop (COLUMNS * n) t')

-- ── What a test leaves ──
-- only the part behind the tree's own words may be different
abbrev pub Apart : ℕ → List ℕ → List ℕ → Type 0
Apart n t t' = Frame (COLUMNS * n) (scratch_words n) t t'

-- the answers of a comparison or a count stand in the first column of its part
pub record Answers (ns : List Node) (n : ℕ) (T : Test) (t t' : List ℕ) : Type 0 where
  pub apart : Apart n t t'
  pub answers : (v : ℕ) → v < n → (word t' n COLUMNS v ≡ 1) ↔ Holds (tree_of ns) T v

-- test k is settled; the tree and the other tests are as before, and so is all behind the scratch's own words
pub record Decided (ns : List Node) (n k : ℕ) (T : Test) (t t' : List ℕ) : Type 0 where
  pub tells : Tells ns n k T t'
  pub others : (i v : ℕ) → i < rule_tests → i ≢ k → v < n → held t' n i v ≡ held t n i v
  pub frame : Frame (TESTS * n) (scratch_words n) t t'

-- answered or settled by an evaluator, and the snippets of the test
pub record Compares (e : Evaluator) (ns : List Node) (n : ℕ) (T : Test) (t t' : List ℕ) (r : ℕ) : Type 0 where
  pub answers : Answers ns n T t t'
  pub adds : Adds e (tree_of ns) T r

pub record Settles (e : Evaluator) (ns : List Node) (n k : ℕ) (T : Test) (t t' : List ℕ) (r : ℕ) : Type 0 where
  pub decided : Decided ns n k T t t'
  pub adds : Adds e (tree_of ns) T r

-- ── The tests of a rule, in some order ──
-- the tests of a list are due: they stand at offsets of the accepted rule T, none is there twice, and those inside one come before it
pub record Queue (s rule : List ℕ) (ns : List Node) (T : Test) (n : ℕ) (t offsets ks : List ℕ) : Type 0 where
  pub scene : Scene s ns n t
  pub accepts : Rule.Accepts rule T
  pub count : ℕ
  pub listed : Listed rule T offsets count
  pub room : rule_tests ≤ length offsets
  pub order : InnerFirst T ks

-- the tests of a list are settled
pub record Settling (ns : List Node) (n : ℕ) (T : Test) (ks : List ℕ) (t t' : List ℕ) : Type 0 where
  pub tells : (k : ℕ) → Occurs k ks → Tells ns n k (test (tests_of T) k) t'
  pub frame : Frame (TESTS * n) (scratch_words n) t t'

-- the snippets of a list of tests, added
abbrev pub Total : Evaluator → Tree → List Test → ℕ → Type 0
Total Plain t Ts r = r ≡ 0
Total Snippets t Ts r = Counted t (owned Ts) r

-- all tests of the rule are settled, and their snippets are added
pub record Evaluates (e : Evaluator) (ns : List Node) (n : ℕ) (T : Test) (t t' : List ℕ) (r : ℕ) : Type 0 where
  pub tells : (k : ℕ) → k < length (tests_of T) → Tells ns n k (test (tests_of T) k) t'
  pub frame : Frame (TESTS * n) (scratch_words n) t t'
  pub total : Total e (tree_of ns) (tests_of T) r

-- the tests of a list are settled and their snippets are added; a list that has every test gives what any other such list gives
pub record Drives (e : Evaluator) (ns : List Node) (n : ℕ) (T : Test) (ks : List ℕ) (t t' : List ℕ) (r : ℕ) : Type 0 where
  pub settling : Settling ns n T ks t t'
  pub total : Total e (tree_of ns) (map (test (tests_of T)) ks) r
  pub whole : EachTest T ks → Evaluates e ns n T t t' r

-- ── One equality by a list of its values ──
-- the rule (P=R), which is test 0, is settled by the values in the list, and these yield r snippets
pub record ComparesBy (vs : List ℕ) (ns : List Node) (n : ℕ) (P R : XPath) (t t' : List ℕ) (r : ℕ) : Type 0 where
  pub tells : (v : ℕ) → v < n → (held t' n 0 v ≡ true) ↔ SettlesBy (tree_of ns) vs P R v
  pub frame : Frame (TESTS * n) (scratch_words n) t t'
  pub count : Number (IsSnippetBy (tree_of ns) vs (record { first = P; second = R })) r

-- the rule by the values in the list, and the tests inside it as usual, with the snippets of all
pub record EvaluatesBy (vs : List ℕ) (ns : List Node) (n : ℕ) (P R : XPath) (t t' : List ℕ) (r : ℕ) : Type 0 where
  pub tells : (v : ℕ) → v < n → (held t' n 0 v ≡ true) ↔ SettlesBy (tree_of ns) vs P R v
  pub frame : Frame (TESTS * n) (scratch_words n) t t'
  pub count : CountBy (tree_of ns) vs P R r
