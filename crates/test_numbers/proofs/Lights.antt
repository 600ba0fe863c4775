-- In an accepted rule no comparison and no count has more than 14 steps.
use Prim.Native.Nat.{ℕ, zero, suc, ◌+◌, ◌≤◌, ◌<◌}
use native.Mathlib.Omega.{arith}
use native.Mathlib.Decide.{dec_le}
use mathlib.Core.Path.{refl}
use mathlib.Core.List.{List, [], ◌∷◌, ◌++◌}
use lib.ListN.{length}
use Rattle.lists.specs.Lists.{All}
use Rattle.lists.proofs.Lists.{all_append, all_occurs}
use Rattle.xpath.specs.Syntax.{Test, named, not, and, or, compare, compare_to, at_least, XPath, empty, one, seq, union, star, Step, to_left, to_right, from_left, from_right, stay, size}
use Rattle.rule_spec.specs.Spelling.{sign, spell_test, spell_path}
use Rattle.rule_spec.specs.Parts.{Part, stepped, parts, test_parts, path_parts, step_parts}
use Rattle.rule_spec.specs.Verdict.{Heavy, Accepts}
use Rattle.test_numbers.specs.Tests.{tests_of, path_tests, step_tests, test, Light}

-- ── Part by part ──
abbrev NotHeavy : List Part → Type 0
NotHeavy ps = All (λ p. ¬ Heavy p) ps

abbrev AllLight : List Test → Type 0
AllLight Ts = All Light Ts

light_steps : (o n m : ℕ) → ¬ Heavy (record { offset = o; nesting = n; sort = stepped m }) → m ≤ 14
light_steps o n m h = go (dec_le m 14)
  where
    go : Dec (m ≤ 14) → m ≤ 14
    go (yes l) = l
    go (no f) = absurd (h (m, refl, omega arith))

both_light : (ps qs : List Part) (Ts Us : List Test) → (NotHeavy ps → AllLight Ts) → (NotHeavy qs → AllLight Us) → NotHeavy (ps ++ qs) → AllLight (Ts ++ Us)
both_light ps qs Ts Us f g h = let (a, b) = (all_append _ ps qs).0 h in (all_append Light Ts Us).1 (f a, g b)

mutual
  unfolding test_parts path_parts step_parts tests_of path_tests step_tests

  light_test : (T : Test) (o n : ℕ) → NotHeavy (test_parts T o n) → AllLight (tests_of T)
  light_test (named a) o n h = (tt, tt)
  light_test (not T) o n h = (tt, light_test T (suc o) (suc n) h.1)
  light_test (and T U) o n h = (tt, both_light (test_parts T (suc o) (suc n)) (test_parts U (suc o + length (spell_test T)) (suc n)) (tests_of T) (tests_of U) (λ g. light_test T (suc o) (suc n) g) (λ g. light_test U (suc o + length (spell_test T)) (suc n) g) h.1)
  light_test (or T U) o n h = (tt, both_light (test_parts T (suc o) (suc n)) (test_parts U (suc o + length (spell_test T)) (suc n)) (tests_of T) (tests_of U) (λ g. light_test T (suc o) (suc n) g) (λ g. light_test U (suc o + length (spell_test T)) (suc n) g) h.1)
  light_test (compare s P R) o n h = (light_steps o n (size P + size R) h.0, both_light (path_parts P (suc o) (suc n)) (path_parts R (suc o + length (spell_path P) + length (sign s)) (suc n)) (path_tests P) (path_tests R) (λ g. light_path P (suc o) (suc n) g) (λ g. light_path R (suc o + length (spell_path P) + length (sign s)) (suc n) g) h.1)
  light_test (compare_to s P c) o n h = (light_steps o n (size P) h.0, light_path P (suc o) (suc n) h.1)
  light_test (at_least k P) o n h = (light_steps o n (size P) h.0, light_path P _ (suc n) h.1)

  light_path : (P : XPath) (o n : ℕ) → NotHeavy (path_parts P o n) → AllLight (path_tests P)
  light_path empty o n h = tt
  light_path (one s) o n h = light_step s o n h.1
  light_path (seq P R) o n h = both_light (path_parts P (suc o) (suc n)) (path_parts R (suc o + length (spell_path P)) (suc n)) (path_tests P) (path_tests R) (λ g. light_path P (suc o) (suc n) g) (λ g. light_path R (suc o + length (spell_path P)) (suc n) g) h.1
  light_path (union P R) o n h = both_light (path_parts P (suc o) (suc n)) (path_parts R (suc o + length (spell_path P)) (suc n)) (path_tests P) (path_tests R) (λ g. light_path P (suc o) (suc n) g) (λ g. light_path R (suc o + length (spell_path P)) (suc n) g) h.1
  light_path (star P) o n h = light_path P (suc o) (suc n) h.1

  light_step : (s : Step) (o n : ℕ) → NotHeavy (step_parts s o n) → AllLight (step_tests s)
  light_step to_left o n h = tt
  light_step to_right o n h = tt
  light_step from_left o n h = tt
  light_step from_right o n h = tt
  light_step (stay T) o n h = light_test T (suc o) (suc n) h

-- ── The whole rule ──
light_at : (Ts : List Test) (k : ℕ) → AllLight Ts → k < length Ts → Light (test Ts k)
light_at [] k h l = absurd (omega arith)
light_at (T ∷ Ts) zero h l = h.0
light_at (T ∷ Ts) (suc k) h l = light_at Ts k h.1 (omega arith)

module _ {s : List ℕ} {T : Test} (a : Accepts s T) where
  pub all_light : All Light (tests_of T)
  unfolding parts
  all_light = light_test T 0 1 ((all_occurs _ (test_parts T 0 1)).1 a.light)

  pub tests_light : (k : ℕ) → k < length (tests_of T) → Light (test (tests_of T) k)
  tests_light k l = light_at (tests_of T) k all_light l
