-- The snippets of the tests of a list, added.
use Prim.Native.Nat.{ℕ, ◌+◌, ◌-◌, ◌≤◌, ◌<◌}
use native.Mathlib.Numerals.{add-one}
use native.Mathlib.Omega.{arith}
use mathlib.Core.Path.{◌≡◌, refl, sym, ap, ◌∙◌, subst}
use mathlib.Core.Logic.{◌↔◌}
use mathlib.Core.List.{List, [], ◌∷◌, ◌++◌, map}
use lib.ListN.{length, get_or, take, drop, length-take}
use lib.Seq.{take-suc, take_all}
use Rattle.lists.specs.Lists.{All, Occurs, Distinct}
use Rattle.lists.proofs.Lists.{all_imp, all_occurs}
use Rattle.xpath.specs.Syntax.{Test}
use Rattle.xpath.specs.Tree.{Tree, WellFormed}
use Rattle.document_spec.specs.Library.{Node}
use Rattle.document_spec.specs.Binary.{tree_of}
use Rattle.document_spec.proofs.Binary.{tree_formed}
use Rattle.rule_spec.specs.Verdict.{Accepts}
use Rattle.test_numbers.specs.Tests.{tests_of, test, inside}
use Rattle.test_numbers.specs.Orders.{EachTest, Falling}
use Rattle.test_numbers.specs.Owned.{own, owned}
use Rattle.test_numbers.proofs.Counts.{tests_first, tests_some, tests_few}
use Rattle.test_numbers.proofs.Orders.{order_short, order_number, order_numbers, order_inner, falling_occurs, falling_once, falling_first}
use Rattle.test_numbers.proofs.Counted.{counted_no_pair, counted_last, counted_from, counted_small}
use Rattle.test_places.specs.Places.{Listed}
use Rattle.evaluators.specs.declared.Evaluator.{Evaluator}
use Rattle.evaluators.specs.declared.Evaluator.TheVariants.{Plain, Snippets}
use Rattle.evaluators.specs.Evaluators.{Adds}
use Rattle.driver.specs.Tasks.{Scene, Task, Settles, Queue, Settling, Total, Evaluates, Drives}
use Rattle.driver.proofs.Settling.{settling_none, settling_step, task}

-- a test that is no equality between two paths adds nothing
pub adds_none : (e : Evaluator) (t : Tree) (T : Test) → own T ≡ [] → Adds e t T 0
adds_none Plain t T h = refl
adds_none Snippets t T h = counted_no_pair t T h

-- ── The sum ──
total_none : (e : Evaluator) (t : Tree) → Total e t [] 0
unfolding owned
total_none Plain t = refl
total_none Snippets t = refl

-- one more at the end
total_step : (e : Evaluator) (t : Tree) (T : Test) (ks : List ℕ) (k a b : ℕ) → Total e t (map (test (tests_of T)) ks) a → Adds e t (test (tests_of T) k) b
    → Total e t (map (test (tests_of T)) (ks ++ k ∷ [])) (a + b)
total_step Plain t T ks k a b h g = omega arith
total_step Snippets t T ks k a b h g = counted_last t (test (tests_of T)) ks k a b h g

-- of the tests from m on, in whatever order they were added
total_from : (e : Evaluator) (t : Tree) (T : Test) (m : ℕ) (ks : List ℕ) → m ≤ length (tests_of T) → Distinct ks → ((k : ℕ) → Occurs k ks ↔ ((m ≤ k) × (k < length (tests_of T))))
    → (n : ℕ) → Total e t (map (test (tests_of T)) ks) n → Total e t (drop m (tests_of T)) n
total_from Plain t T m ks l d same n h = h
total_from Snippets t T m ks l d same n h = counted_from t (tests_of T) m ks l d same n h

-- of the tests inside the rule: all but test 0
pub total_inside : (e : Evaluator) (t : Tree) (T : Test) (ks : List ℕ) {m : ℕ} → m ≤ length ks → Falling m ks → m ≡ length (tests_of T)
    → (n : ℕ) → Total e t (map (test (tests_of T)) (take (m - 1) ks)) n → Total e t (inside T) n
total_inside e t T ks {m} room falling count n h =
    let f = tests_first T in let l = ap length f in
    subst (λ Ts. Total e t (drop 1 Ts) n) f
    (total_from e t T 1 (take (m - 1) ks) (omega arith) (falling_once ks room falling (m - 1) (omega arith))
    (λ k. let (to, from) = falling_occurs ks room falling (m - 1) (omega arith) k in (
      (λ o. let (a, b) = to o in (omega arith, omega arith)),
      λ (a, b). from (omega arith, omega arith),
    ))
    n h)

-- the sum fits
total_small : (e : Evaluator) (t : Tree) {s : List ℕ} {T : Test} → Accepts s T → WellFormed t → t.size ≤ 4096 → (ks : List ℕ) → All (λ k. k < length (tests_of T)) ks → length ks ≤ 64
    → (n : ℕ) → Total e t (map (test (tests_of T)) ks) n → n ≤ 436207616
total_small Plain t a wf l ks numbers short n h = omega arith
total_small Snippets t a wf l ks numbers short n h = counted_small a t wf l ks numbers short n h

-- ── Settled and added: the first tests of a list ──
pub record Driven (e : Evaluator) (ns : List Node) (n : ℕ) (T : Test) (ks : List ℕ) (t₀ t : List ℕ) (r : ℕ) : Type 0 where
  pub settling : Settling ns n T ks t₀ t
  pub total : Total e (tree_of ns) (map (test (tests_of T)) ks) r

pub driven_none : (e : Evaluator) (ns : List Node) (n : ℕ) (T : Test) (t : List ℕ) → Driven e ns n T [] t t 0
driven_none e ns n T t = record { settling = settling_none ns n T t; total = total_none e (tree_of ns) }

module _ {s rule : List ℕ} {ns : List Node} {T : Test} {n : ℕ} {t₀ offsets ks : List ℕ} (queue : Queue s rule ns T n t₀ offsets ks) where
  pub number_room : (i : ℕ) → i < length ks → get_or ks i 0 < length offsets
  number_room i l = let h = order_number queue.order i l in let f = tests_few queue.accepts in let r = queue.room in omega arith

  module _ {e : Evaluator} (i : ℕ) {t : List ℕ} {r : ℕ} (driven : Driven e ns n T (take i ks) t₀ t r) where
    -- the next test is due
    pub next_task : i < length ks → Task s rule ns T n (get_or offsets (get_or ks i 0) 0) (get_or ks i 0) t
    next_task l = task (take i ks) driven.settling queue.scene queue.accepts queue.listed (get_or ks i 0) (order_number queue.order i l) (order_inner queue.order i l)

    pub driven_step : i < length ks → {t' : List ℕ} {a : ℕ} → Settles e ns n (get_or ks i 0) (test (tests_of T) (get_or ks i 0)) t t' a → Driven e ns n T (take (i + 1) ks) t₀ t' (r + a)
    driven_step l {t'} {a} settles =
        let f = tests_few queue.accepts in
        let few = all_imp (λ k. k < length (tests_of T)) (λ k. k < 64) (λ k h. omega arith) (take i ks) (order_numbers queue.order i) in
        subst (λ ls. Driven e ns n T ls t₀ t' (r + a)) (sym (ap (λ j. take j ks) (add-one i) ∙ take-suc ks i 0 l))
        (record {
          settling = settling_step (take i ks) driven.settling (get_or ks i 0) few settles.decided;
          total = total_step e (tree_of ns) T (take i ks) (get_or ks i 0) r a driven.total settles.adds;
        })

    pub driven_small : r ≤ 436207616
    driven_small =
        let b = order_short queue.order in let f = tests_few queue.accepts in let z = length-take i ks in
        total_small e (tree_of ns) queue.accepts (tree_formed queue.scene.library.legal) queue.scene.library.legal.few (take i ks) (order_numbers queue.order i) (omega arith) r driven.total

  -- every test of the rule is in the list
  driven_whole : {e : Evaluator} {t : List ℕ} {r : ℕ} → Driven e ns n T ks t₀ t r → EachTest T ks → Evaluates e ns n T t₀ t r
  driven_whole {e} {r = r} driven each = record {
    tells = λ k l. driven.settling.tells k (each k l);
    frame = driven.settling.frame;
    total = total_from e (tree_of ns) T 0 ks (omega arith) queue.order.once
        (λ k. (λ o. (omega arith, (all_occurs (λ j. j < length (tests_of T)) ks).0 queue.order.numbers k o), λ h. each k h.1)) r driven.total;
  }

  pub drives : {e : Evaluator} (i : ℕ) {t : List ℕ} {r : ℕ} → length ks ≤ i → Driven e ns n T (take i ks) t₀ t r → Drives e ns n T ks t₀ t r
  drives {e} i {t} {r} l driven =
      let d = subst (λ ls. Driven e ns n T ls t₀ t r) (take_all i ks l) driven in
      record { settling = d.settling; total = d.total; whole = driven_whole d }

-- ── The tests of a rule from the last to the first ──
pub listed_few : {rule : List ℕ} {T : Test} {offsets : List ℕ} {count : ℕ} → Accepts rule T → Listed rule T offsets count → (0 < count) × (count ≤ 64)
listed_few {T = T} accepts listed = let (l, q) = tests_some T in let f = tests_few accepts in let e = listed.all in (omega arith, omega arith)

-- the first m of them are due in this order; all but test 0 are so too
pub falling_queue : {s rule : List ℕ} {ns : List Node} {T : Test} {n : ℕ} {t offsets : List ℕ} {count : ℕ} (order : List ℕ) → Scene s ns n t → Accepts rule T → Listed rule T offsets count → 64 ≤ length offsets
    → count ≤ length order → Falling count order → (m : ℕ) → m ≤ count → Queue s rule ns T n t offsets (take m order)
falling_queue {T = T} {count = count} order scene accepts listed room space falling m l =
    record { scene = scene; accepts = accepts; count = count; listed = listed; room = room; order = falling_first order space falling m l T listed.all }
