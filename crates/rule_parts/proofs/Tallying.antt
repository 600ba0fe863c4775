-- A tally loses one for each test, and a test has at most as many tests as bytes.
use Prim.Native.Nat.{ℕ, zero, suc, ◌+◌, ◌-◌, ◌≤◌, suc-le-suc}
use native.Mathlib.Omega.{arith}
use mathlib.Core.Path.{◌≡◌, refl, ap, ◌∙◌}
use mathlib.Core.List.{List, [], ◌∷◌, ◌++◌}
use lib.ListN.{length, length-append}
use Rattle.lists.specs.Text.{bytes, decimal}
use Rattle.xpath.specs.Syntax.{Test, named, not, and, or, compare, compare_to, at_least, XPath, empty, one, seq, union, star, Step, to_left, to_right, from_left, from_right, stay}
use Rattle.rule_spec.specs.Spelling.{sign, spell_test, spell_path, spell_step}
use Rattle.rule_spec.specs.Parts.{Part, Sort, tests, test_parts, path_parts, step_parts}
use Rattle.tokens.specs.declared.read.Tally.{Tally}
use Rattle.tokens.specs.Tallies.{begins, begun, weighed, noted, tallied}

abbrev count : List Part → ℕ
count ps = length (tests ps)

-- p counts if it is a test
abbrev with : Sort → Part → List Part → List Part
with x p ps = elim x [ Sort.test ↦ p ∷ ps | Sort.stepped m ↦ p ∷ ps | Sort.path ↦ ps ]

-- ── Tallies ──
begun_left : (t : Tally) (o : ℕ) → (begun t o).left ≡ t.left - 1
unfolding begun
begun_left t o = go t.left
  where
    go : (l : ℕ) → (begins l t.crowded t.heavy o).left ≡ l - 1
    go zero = omega arith
    go (suc l) = omega arith

pub left_is : (ps : List Part) (t : Tally) → (tallied t ps).left ≡ t.left - count ps
unfolding tallied noted weighed tests
left_is [] t = omega arith
left_is (p ∷ ps) t = go p.sort (λ x. left_is ps (noted t p.offset x))
  where
    go : (x : Sort) → ((y : Sort) → (tallied (noted t p.offset y) ps).left ≡ (noted t p.offset y).left - count ps)
        → (tallied (noted t p.offset x) ps).left ≡ t.left - length (with x p (tests ps))
    go Sort.test ih = let e = ih Sort.test in let l = begun_left t p.offset in omega arith
    go (Sort.stepped m) ih = let e = ih (Sort.stepped m) in let l = begun_left t p.offset in omega arith
    go Sort.path ih = ih Sort.path

-- ── Counting ──
-- the tests of a part that has two are its own, those of the first, and those of the second
pub tests_append : (ps qs : List Part) → tests (ps ++ qs) ≡ tests ps ++ tests qs
unfolding tests
tests_append [] qs = refl
tests_append (p ∷ ps) qs = go p.sort (tests_append ps qs)
  where
    go : (x : Sort) → tests (ps ++ qs) ≡ tests ps ++ tests qs → with x p (tests (ps ++ qs)) ≡ with x p (tests ps) ++ tests qs
    go Sort.test e = ap (λ rs. p ∷ rs) e
    go (Sort.stepped m) e = ap (λ rs. p ∷ rs) e
    go Sort.path e = e

count_append : (ps qs : List Part) → count (ps ++ qs) ≡ count ps + count qs
count_append ps qs = ap length (tests_append ps qs) ∙ length-append (tests ps) (tests qs)

joined : (ps qs : List Part) (a b : List ℕ) → count ps ≤ length a → count qs ≤ length b → count (ps ++ qs) ≤ length (a ++ b)
joined ps qs a b h k = let i = count_append ps qs in let j = length-append a b in omega arith

longer : {m n : ℕ} → m ≤ n → m ≤ suc n
longer h = omega arith

mutual
  unfolding tests test_parts path_parts step_parts spell_test spell_path spell_step

  pub count_test : (T : Test) (o n : ℕ) → count (test_parts T o n) ≤ length (spell_test T)
  count_test (named a) o n = omega arith
  count_test (not T) o n = let i = count_test T (suc o) (suc n) in omega arith
  count_test (and T U) o n = suc-le-suc (joined (test_parts T (suc o) (suc n)) (test_parts U (suc o + length (spell_test T)) (suc n)) (spell_test T) (spell_test U) (count_test T (suc o) (suc n)) (count_test U (suc o + length (spell_test T)) (suc n)))
  count_test (or T U) o n = suc-le-suc (joined (test_parts T (suc o) (suc n)) (test_parts U (suc o + length (spell_test T)) (suc n)) (spell_test T) (spell_test U) (count_test T (suc o) (suc n)) (count_test U (suc o + length (spell_test T)) (suc n)))
  count_test (compare s P Q) o n =
      let i = count_path P (suc o) (suc n) in let j = count_path Q (suc o + length (spell_path P) + length (sign s)) (suc n) in
      let a = count_append (path_parts P (suc o) (suc n)) (path_parts Q (suc o + length (spell_path P) + length (sign s)) (suc n)) in
      let b = length-append (spell_path P) (sign s ++ (spell_path Q ++ bytes ")")) in
      let c = length-append (sign s) (spell_path Q ++ bytes ")") in
      let d = length-append (spell_path Q) (bytes ")") in
      omega arith
  count_test (compare_to s P c) o n =
      let i = count_path P (suc o) (suc n) in let b = length-append (spell_path P) (sign s ++ (bytes "\"" ++ (c ++ bytes "\")"))) in omega arith
  count_test (at_least k P) o n =
      let i = count_path P (suc o + length (decimal k)) (suc n) in let b = length-append (decimal k) (spell_path P) in omega arith

  count_path : (P : XPath) (o n : ℕ) → count (path_parts P o n) ≤ length (spell_path P)
  count_path empty o n = omega arith
  count_path (one s) o n = count_step s o n
  count_path (seq P Q) o n = longer (joined (path_parts P (suc o) (suc n)) (path_parts Q (suc o + length (spell_path P)) (suc n)) (spell_path P) (spell_path Q) (count_path P (suc o) (suc n)) (count_path Q (suc o + length (spell_path P)) (suc n)))
  count_path (union P Q) o n = longer (joined (path_parts P (suc o) (suc n)) (path_parts Q (suc o + length (spell_path P)) (suc n)) (spell_path P) (spell_path Q) (count_path P (suc o) (suc n)) (count_path Q (suc o + length (spell_path P)) (suc n)))
  count_path (star P) o n = let i = count_path P (suc o) (suc n) in omega arith

  count_step : (s : Step) (o n : ℕ) → count (step_parts s o n) ≤ length (spell_step s)
  count_step to_left o n = omega arith
  count_step to_right o n = omega arith
  count_step from_left o n = omega arith
  count_step from_right o n = omega arith
  count_step (stay T) o n = let i = count_test T (suc o) (suc n) in let b = length-append (spell_test T) (bytes "]") in omega arith
