-- What the evaluator of a comparison or a count asks, and what is drawn for it.
use Prim.Native.Nat.{ℕ, suc, ◌+◌, ◌*◌, ◌≤◌, ◌<◌}
use native.Mathlib.Numerals.{add-one}
use native.Mathlib.Omega.{arith}
use Rattle.std.specs.Prelude.{Some, None}
use mathlib.Core.Path.{◌≡◌, refl, sym, ap, ◌∙◌, subst}
use mathlib.Core.List.{List, ◌++◌, append-nil}
use lib.ListN.{length, drop}
use Rattle.xpath.specs.Syntax.{Test, at_least, XPath, empty, size}
use Rattle.document_spec.specs.Library.{Node}
use Rattle.layout.specs.Table.{COLUMNS}
use Rattle.rule_parts.specs.Standing.{TestAt, PathAt}
use Rattle.rule_parts.specs.Middles.{Counted}
use Rattle.rule_parts.specs.declared.Count.{Count}
use Rattle.rule_parts.specs.declared.kinds.Operator.{Operator}
use Rattle.rule_parts.specs.declared.kinds.TestKind.TheVariants as Kind
use Rattle.path_sets.specs.Paths.{PathsAt, TwoPaths}
use Rattle.test_numbers.specs.Tests.{tests_of, path_tests, test, Light}
use Rattle.test_numbers.specs.Numbering.{Brackets, TwoNumbered, NumbersTwo}
use Rattle.test_numbers.proofs.Counts.{tests_few}
use Rattle.test_numbers.proofs.Lights.{tests_light}
use Rattle.test_numbers.proofs.Following.{Begins, room_compare, inner_compare, room_compareTo, inner_compareTo, room_count, inner_count}
use Rattle.compiler.specs.Machines.{Machined}
use Rattle.machine.specs.declared.Machine.{Machine}
use Rattle.machine.specs.Meaning.{IsMachine}
use Rattle.staging.specs.Drawing.{Copied, Stayed}
use Rattle.driver.specs.Tasks.{Tells, Task, Shape, Paths, Constant, Ready, PathDrawn}
use Rattle.driver.proofs.Parts.{behind_word}
use Rattle.driver.proofs.Answers.{drawn_within, drawn_paths}
use Rattle.driver.proofs.Arms.{told_inner}

-- ── Two paths ──
module _ {s rule : List ℕ} {ns : List Node} {T : Test} {n at k : ℕ} {t : List ℕ} {behind : ℕ} {o : Operator} (h : Paths s rule ns T n at k t behind o) where
  light : size h.first + size h.second ≤ 14
  light = subst Light h.is (tests_light h.task.accepts k h.task.number)

  paths_at : PathsAt rule (at + 1) (Some behind) h.first h.second
  paths_at = record { end = h.first_end; first = h.first_at; second = (h.second_end, h.second_at); few = light }

  pub two_paths : TwoPaths rule (at + 1) (Some behind)
  two_paths = (h.first, h.second, paths_at)

  few : k + 1 + length (path_tests h.first ++ path_tests h.second) ≤ 64
  few = let r = room_compare T k h.is in let f = tests_few h.task.accepts in omega arith

  pub two_numbered : TwoNumbered rule (at + 1) (Some behind) (k + 1)
  two_numbered = (h.first, h.second, paths_at, few)

  pub is_machine : {m : Machine} → Machined rule (at + 1) (Some behind) m → IsMachine h.first h.second m
  is_machine g = g h.first h.second paths_at

  pub has_brackets : {r : List ℕ} → NumbersTwo rule (at + 1) (Some behind) (k + 1) r → Brackets h.first h.second (suc k) r
  has_brackets {r} g = subst (λ m. Brackets h.first h.second m r) (add-one k) (g h.first h.second paths_at few)

  pub both_settled : (e : ℕ) → e < length (path_tests h.first ++ path_tests h.second) → Tells ns n (suc k + e) (test (path_tests h.first ++ path_tests h.second) e) t
  both_settled e r = told_inner h.task (inner_compare T k h.is e r)

-- ── One path ──
-- what it needs is ready where no other tests stand inside test k than those in its brackets
module _ {s rule : List ℕ} {ns : List Node} {T : Test} {n at k : ℕ} {t : List ℕ} (task : Task s rule ns T n at k t) where
  ready : (P : XPath) {i j : ℕ} → PathAt rule P i j → size P ≤ 14 → suc k + length (path_tests P) ≤ length (tests_of T)
      → ((e : ℕ) → e < length (path_tests P) → Begins T k (suc k + e) (test (path_tests P) e))
      → Ready s rule ns P n i (k + 1) t
  ready P {i} {j} stands light room inner = let f = tests_few task.accepts in record {
    scene = task.scene;
    end = j;
    stands = stands;
    light = light;
    room = omega arith;
    settled = λ e r. subst (λ m. Tells ns n (m + e) (test (path_tests P) e) t) (sym (add-one k)) (told_inner task (inner e r));
  }

  -- of a count
  module _ {c : Count} (counted : (m : ℕ) (P : XPath) (j : ℕ) → TestAt rule (at_least m P) at j → Counted rule m P j c) where
    counted_due : (shape : Shape Kind.Count (test (tests_of T) k)) → Counted rule shape.0 shape.1 task.end c
    counted_due (m, P, is) = counted m P task.end (subst (λ U. TestAt rule U at task.end) is task.stands)

    pub count_is : (shape : Shape Kind.Count (test (tests_of T) k)) → test (tests_of T) k ≡ at_least c.nodes shape.1
    count_is (m, P, is) = is ∙ ap (λ i. at_least i P) (sym (counted_due (m, P, is)).told)

    pub count_ready : (shape : Shape Kind.Count (test (tests_of T) k)) → Ready s rule ns shape.1 n c.path (k + 1) t
    count_ready (m, P, is) = ready P (counted_due (m, P, is)).path (subst Light is (tests_light task.accepts k task.number)) (room_count T k is) (inner_count T k is)

-- of a comparison with a constant
pub constant_ready : {s rule : List ℕ} {ns : List Node} {T : Test} {n at k : ℕ} {t : List ℕ} {start stop : ℕ} {o : Operator} (h : Constant s rule ns T n at k t start stop o)
    → Ready s rule ns h.first n (at + 1) (k + 1) t
constant_ready {T = T} {k = k} h =
    let task = h.task in
    ready task h.first h.first_at (subst Light h.is (tests_light task.accepts k task.number)) (room_compareTo T k h.is) (inner_compareTo T k h.is)

module _ {s rule : List ℕ} {ns : List Node} {P : XPath} {n at k : ℕ} {t : List ℕ} (h : Ready s rule ns P n at k t) where
  path_at : PathsAt rule at None P empty
  path_at = let l = h.light in record { end = h.end; first = h.stands; second = refl; few = omega arith }

  pub one_path : TwoPaths rule at None
  one_path = (P, empty, path_at)

  room : k + length (path_tests P ++ path_tests empty) ≤ 64
  unfolding path_tests
  room = subst (λ Us. k + length Us ≤ 64) (sym (append-nil (path_tests P))) h.room

  pub one_numbered : TwoNumbered rule at None k
  one_numbered = (P, empty, path_at, room)

  pub has_brackets_alone : {r : List ℕ} → NumbersTwo rule at None k r → Brackets P empty k r
  has_brackets_alone g = g P empty path_at room

  settled_alone : (e : ℕ) → e < length (path_tests P ++ path_tests empty) → Tells ns n (k + e) (test (path_tests P ++ path_tests empty) e) t
  unfolding path_tests
  settled_alone = subst (λ Us. (e : ℕ) → e < length Us → Tells ns n (k + e) (test Us e) t) (sym (append-nil (path_tests P))) h.settled

  pub path_drawn : {m : Machine} {numbers t₁ t₂ : List ℕ} → Machined rule at None m → NumbersTwo rule at None k numbers → Copied n t t₁ → Stayed n m.brackets numbers t₁ t₂ → PathDrawn ns n P m t t₂
  path_drawn {m} {t₂ = t₂} machined numbered copied stayed =
      let machine = machined P empty path_at in
      record {
        machine = machine;
        within = drawn_within h.scene copied stayed;
        drawn = drawn_paths h.scene (drop (COLUMNS * n) t₂) P empty settled_alone machine (has_brackets_alone numbered) copied stayed (λ c v l d r. behind_word n t₂ c v);
      }
