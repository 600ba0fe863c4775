-- How many tests a rule has: as many as it has parts that are tests, at least one, and in an accepted rule at most 64.
use Prim.Native.Nat.{ℕ, suc, ◌+◌, ◌≤◌, ◌<◌}
use native.Mathlib.Omega.{arith}
use mathlib.Core.Path.{◌≡◌, refl, ap}
use mathlib.Core.List.{List, ◌∷◌, ◌++◌}
use lib.ListN.{length, length-append}
use Rattle.xpath.specs.Syntax.{Test, named, not, and, or, compare, compare_to, at_least, XPath, empty, one, seq, union, star, Step, to_left, to_right, from_left, from_right, stay}
use Rattle.rule_spec.specs.Spelling.{sign, spell_test, spell_path}
use Rattle.rule_spec.specs.Parts.{Part, tests, parts, test_parts, path_parts, step_parts}
use Rattle.rule_spec.specs.Verdict.{Accepts}
use Rattle.rule_parts.proofs.Tallying.{tests_append}
use Rattle.test_numbers.specs.Tests.{tests_of, path_tests, step_tests, test, inside}

-- ── A test comes first among its tests ──
pub tests_first : (T : Test) → tests_of T ≡ T ∷ inside T
unfolding tests_of
tests_first (named a) = refl
tests_first (not T) = refl
tests_first (and T U) = refl
tests_first (or T U) = refl
tests_first (compare o P R) = refl
tests_first (compare_to o P c) = refl
tests_first (at_least n P) = refl

pub tests_some : (T : Test) → (0 < length (tests_of T)) × (test (tests_of T) 0 ≡ T)
tests_some T = let e = tests_first T in let n = ap length e in (omega arith, ap (λ Ts. test Ts 0) e)

-- ── Tests and parts ──
both_counted : (ps qs : List Part) (Ts Us : List Test) → length (tests ps) ≡ length Ts → length (tests qs) ≡ length Us → length (tests (ps ++ qs)) ≡ length (Ts ++ Us)
both_counted ps qs Ts Us a b =
    let e = ap length (tests_append ps qs) in let l = length-append (tests ps) (tests qs) in let r = length-append Ts Us in omega arith

mutual
  unfolding tests test_parts path_parts step_parts tests_of path_tests step_tests

  pub tests_counted : (T : Test) (o n : ℕ) → length (tests (test_parts T o n)) ≡ length (tests_of T)
  tests_counted (named a) o n = refl
  tests_counted (not T) o n = ap suc (tests_counted T (suc o) (suc n))
  tests_counted (and T U) o n = ap suc (both_counted (test_parts T (suc o) (suc n)) (test_parts U (suc o + length (spell_test T)) (suc n)) (tests_of T) (tests_of U) (tests_counted T (suc o) (suc n)) (tests_counted U (suc o + length (spell_test T)) (suc n)))
  tests_counted (or T U) o n = ap suc (both_counted (test_parts T (suc o) (suc n)) (test_parts U (suc o + length (spell_test T)) (suc n)) (tests_of T) (tests_of U) (tests_counted T (suc o) (suc n)) (tests_counted U (suc o + length (spell_test T)) (suc n)))
  tests_counted (compare s P R) o n = ap suc (both_counted (path_parts P (suc o) (suc n)) (path_parts R (suc o + length (spell_path P) + length (sign s)) (suc n)) (path_tests P) (path_tests R) (path_counted P (suc o) (suc n)) (path_counted R (suc o + length (spell_path P) + length (sign s)) (suc n)))
  tests_counted (compare_to s P c) o n = ap suc (path_counted P (suc o) (suc n))
  tests_counted (at_least k P) o n = ap suc (path_counted P _ (suc n))

  path_counted : (P : XPath) (o n : ℕ) → length (tests (path_parts P o n)) ≡ length (path_tests P)
  path_counted empty o n = refl
  path_counted (one s) o n = step_counted s o n
  path_counted (seq P R) o n = both_counted (path_parts P (suc o) (suc n)) (path_parts R (suc o + length (spell_path P)) (suc n)) (path_tests P) (path_tests R) (path_counted P (suc o) (suc n)) (path_counted R (suc o + length (spell_path P)) (suc n))
  path_counted (union P R) o n = both_counted (path_parts P (suc o) (suc n)) (path_parts R (suc o + length (spell_path P)) (suc n)) (path_tests P) (path_tests R) (path_counted P (suc o) (suc n)) (path_counted R (suc o + length (spell_path P)) (suc n))
  path_counted (star P) o n = path_counted P (suc o) (suc n)

  step_counted : (s : Step) (o n : ℕ) → length (tests (step_parts s o n)) ≡ length (step_tests s)
  step_counted to_left o n = refl
  step_counted to_right o n = refl
  step_counted from_left o n = refl
  step_counted from_right o n = refl
  step_counted (stay T) o n = tests_counted T (suc o) (suc n)

module _ {s : List ℕ} {T : Test} (a : Accepts s T) where
  pub tests_few : length (tests_of T) ≤ 64
  unfolding parts
  tests_few = let e = tests_counted T 0 1 in let f = a.few in omega arith
