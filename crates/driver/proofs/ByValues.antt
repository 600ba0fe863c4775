-- The rule (P=R) by the values in a list: it is due when the tests inside it are settled, and its snippets and theirs are added.
use Prim.Native.Nat.{ℕ, ◌+◌, ◌-◌, ◌≤◌}
use native.Mathlib.Nat.{mul-le-mul}
use native.Mathlib.Omega.{arith}
use mathlib.Core.Path.{◌≡◌, refl, sym, subst}
use mathlib.Core.List.{List}
use lib.ListN.{length, take}
use Rattle.lists.proofs.Numerals.{binary_short}
use Rattle.limits.specs.Limits.{scratch_words}
use Rattle.xpath.specs.Syntax.{Test, compare, eq, XPath}
use Rattle.snippets.specs.Count.{Counted}
use Rattle.snippets.proofs.Values.{number_by_bound}
use Rattle.document_spec.specs.Library.{Node}
use Rattle.document_spec.specs.Binary.{tree_of}
use Rattle.document_spec.proofs.Binary.{tree_formed}
use Rattle.rule_spec.specs.Verdict.{Accepts}
use Rattle.rule_parts.specs.Standing.{TestAt}
use Rattle.rule_parts.specs.Middles.{Parted}
use Rattle.rule_parts.specs.declared.Middle.{Middle}
use Rattle.rule_parts.proofs.Inner.{rule_at}
use Rattle.layout.specs.Table.{COLUMNS}
use Rattle.layout.specs.Words.{word}
use Rattle.layout.proofs.Frames.{frame_then, frame_wider, within_frame}
use Rattle.test_bits.specs.Columns.{Settled}
use Rattle.test_numbers.specs.Tests.{Light}
use Rattle.test_numbers.specs.Orders.{Falling}
use Rattle.test_numbers.proofs.Counts.{tests_some, tests_few}
use Rattle.test_numbers.proofs.Lights.{tests_light}
use Rattle.test_numbers.proofs.Following.{inside_number}
use Rattle.test_numbers.proofs.Orders.{order_short, falling_occurs}
use Rattle.test_numbers.proofs.Counted.{paths_owned, counted_small}
use Rattle.test_places.specs.Places.{Listed}
use Rattle.machine.specs.declared.Machine.{Machine}
use Rattle.evaluators.specs.declared.Evaluator.TheVariants.{Snippets}
use Rattle.evaluators.specs.Evaluators.{ComparedBy}
use Rattle.driver.specs.Tasks.{Scene, Task, Paths, PathsDrawn, Queue, Drives, ComparesBy, EvaluatesBy}
use Rattle.driver.proofs.Frames.{scratch_room, scene_same}
use Rattle.driver.proofs.Answers.{some_nodes}
use Rattle.driver.proofs.Operands.{both_paths}
use Rattle.driver.proofs.Lending.{middle, returned, lent_apart, lent_told, paths_apart}
use Rattle.driver.proofs.Totals.{listed_few, falling_queue, total_inside}

-- ── The rule itself ──
module _ {s rule : List ℕ} {ns : List Node} {P R : XPath} {n : ℕ} {t : List ℕ} (task : Task s rule ns (compare eq P R) n 0 0 t)
    {m : Middle} (parted : (U : Test) (j : ℕ) → TestAt rule U 0 j → Parted rule U 0 j m) where
  abbrev pub rule_paths : Paths s rule ns (compare eq P R) n 0 0 t m.second m.operator
  rule_paths = both_paths task parted (tests_some (compare eq P R)).1

-- what the values settle is taken over
pub rule_compared : {s : List ℕ} {ns : List Node} {P R : XPath} {n : ℕ} {vs : List ℕ} {m : Machine} {t t₁ p t₂ : List ℕ} {b r : ℕ} → Scene s ns n t → PathsDrawn ns n eq P R m t t₁ → b ≡ scratch_words n
    → ComparedBy vs (tree_of ns) P R n (middle n b t₁) p r → Settled n 0 (λ v. word (returned n b t₁ p) n COLUMNS v ≡ 1) (returned n b t₁ p) t₂ → ComparesBy vs ns n P R t t₂ r
rule_compared {n = n} scene paths ends x s =
    let h = scratch_room n (some_nodes scene) in let apart = paths_apart scene paths ends in
    record {
      tells = λ v l. let (f, g) = s.done v l in let (i, j) = lent_told scene apart ends x.answered v l in (λ e. i (f e), λ a. g (j a));
      frame = frame_then (frame_wider (omega arith) (omega arith) (lent_apart scene apart ends x.answered)) (frame_wider (omega arith) (omega arith) (within_frame s.within));
      count = x.count;
    }

-- ── All of it ──
module _ {s rule : List ℕ} {ns : List Node} {P R : XPath} {n : ℕ} {t offsets : List ℕ} {count : ℕ} (scene : Scene s ns n t) (accepts : Accepts rule (compare eq P R)) (listed : Listed rule (compare eq P R) offsets count)
    (room : length offsets ≡ 64) (order : List ℕ) (space : length order ≡ 64) (falling : Falling count order) where
  abbrev T : Test
  T = compare eq P R

  fits : count ≤ length order
  fits = let l = listed_few accepts listed in omega arith

  -- all tests but test 0 are due
  pub inner_queue : Queue s rule ns T n t offsets (take (count - 1) order)
  inner_queue = falling_queue order scene accepts listed (omega arith) fits falling (count - 1) (omega arith)

  module _ {t₁ : List ℕ} {inner : ℕ} (drives : Drives Snippets ns n T (take (count - 1) order) t t₁ inner) where
    -- when they are settled, the rule is due
    pub rule_task : Task s rule ns T n 0 0 t₁
    rule_task =
        let (some, first) = tests_some T in let e = listed.all in
        record {
          scene = scene_same scene drives.settling.frame.long drives.settling.frame.front;
          accepts = accepts;
          number = some;
          end = length rule;
          stands = subst (λ U. TestAt rule U 0 (length rule)) (sym first) (rule_at rule accepts);
          inner = λ i b. let h = inside_number T 0 some i b in let g = b.0 in
              drives.settling.tells i ((falling_occurs order fits falling (count - 1) (omega arith) i).1 (omega arith, omega arith));
        }

    module _ {vs t₂ : List ℕ} {own : ℕ} (compares : ComparesBy vs ns n P R t₁ t₂ own) where
      pub evaluated_by : EvaluatesBy vs ns n P R t t₂ (own + inner)
      evaluated_by = record {
        tells = compares.tells;
        frame = frame_then drives.settling.frame compares.frame;
        count = (
          own,
          inner,
          refl,
          compares.count,
          subst (λ cs. Counted (tree_of ns) cs inner) (sym (paths_owned P R)) (total_inside Snippets (tree_of ns) T order fits falling listed.all inner drives.total),
        );
      }

      -- the sum fits
      pub sum_small : own + inner ≤ 443023360
      sum_small =
          let formed = tree_formed scene.library.legal in let few = scene.library.legal.few in
          let light = subst Light (tests_some T).1 (tests_light accepts 0 (tests_some T).0) in
          let digits = binary_short (length ns) 13 (omega arith) (omega arith) in
          let words = mul-le-mul {n₂ = 4096} {m₂ = 13} few digits in
          let a = number_by_bound formed vs P R light own compares.count in
          let short = order_short inner_queue.order in let tests = tests_few accepts in
          let b = counted_small accepts (tree_of ns) formed few (take (count - 1) order) inner_queue.order.numbers (omega arith) inner drives.total in
          omega arith
