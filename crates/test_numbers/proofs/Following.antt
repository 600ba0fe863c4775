-- The tests inside a test follow it in the rule, and so have the next numbers.
use Prim.Native.Nat.{ℕ, zero, suc, ◌+◌, ◌≤◌, ◌<◌}
use native.Mathlib.Omega.{arith}
use native.Mathlib.Decide.{dec_lt}
use mathlib.Core.Path.{◌≡◌, refl, sym, ap, subst, ◌∙◌}
use mathlib.Core.Logic.{◌⊎◌, inl, inr}
use mathlib.Core.List.{List, [], ◌∷◌, ◌++◌, append_assoc, append-nil}
use lib.ListN.{length, drop, length-append, length-drop, get_or-eq_default, get_or-append}
use lib.Seq.{get_or-drop, get_or-append-add}
use Rattle.xpath.specs.Syntax.{Op, Test, named, not, and, or, compare, compare_to, at_least, XPath, empty, one, seq, union, star, Step, to_left, to_right, from_left, from_right, stay}
use Rattle.test_numbers.specs.Tests.{tests_of, path_tests, step_tests, test, inside}
use Rattle.test_numbers.specs.Orders.{Inside}
use Rattle.test_numbers.proofs.Counts.{tests_first, tests_some}

-- every test of a list is followed by the tests inside it
abbrev Followed : List Test → Type 0
Followed [] = Unit {0}
Followed (T ∷ Ts) = ((rest : List Test) × (T ∷ Ts ≡ tests_of T ++ rest)) × Followed Ts

followed_append : (Ts Us : List Test) → Followed Ts → Followed Us → Followed (Ts ++ Us)
followed_append [] Us f g = g
followed_append (T ∷ Ts) Us ((rest, e), f) g = ((rest ++ Us, ap (λ x. x ++ Us) e ∙ append_assoc (tests_of T) rest Us), followed_append Ts Us f g)

followed_first : (T : Test) → Followed (inside T) → Followed (tests_of T)
followed_first T f =
    let e = tests_first T in
    subst Followed (sym e) (([], sym e ∙ sym (append-nil (tests_of T))), f)

mutual
  unfolding path_tests step_tests

  followed_test : (T : Test) → Followed (tests_of T)
  followed_test (named a) = followed_first (named a) tt
  followed_test (not T) = followed_first (not T) (followed_test T)
  followed_test (and T U) = followed_first (and T U) (followed_append (tests_of T) (tests_of U) (followed_test T) (followed_test U))
  followed_test (or T U) = followed_first (or T U) (followed_append (tests_of T) (tests_of U) (followed_test T) (followed_test U))
  followed_test (compare o P R) = followed_first (compare o P R) (followed_append (path_tests P) (path_tests R) (followed_path P) (followed_path R))
  followed_test (compare_to o P c) = followed_first (compare_to o P c) (followed_path P)
  followed_test (at_least n P) = followed_first (at_least n P) (followed_path P)

  followed_path : (P : XPath) → Followed (path_tests P)
  followed_path empty = tt
  followed_path (one s) = followed_step s
  followed_path (seq P R) = followed_append (path_tests P) (path_tests R) (followed_path P) (followed_path R)
  followed_path (union P R) = followed_append (path_tests P) (path_tests R) (followed_path P) (followed_path R)
  followed_path (star P) = followed_path P

  followed_step : (s : Step) → Followed (step_tests s)
  followed_step to_left = tt
  followed_step to_right = tt
  followed_step from_left = tt
  followed_step from_right = tt
  followed_step (stay T) = followed_test T

followed_at : (Ts : List Test) → Followed Ts → (k : ℕ) → k < length Ts → (rest : List Test) × (drop k Ts ≡ tests_of (test Ts k) ++ rest)
followed_at [] f k l = absurd (omega arith)
followed_at (T ∷ Ts) f zero l = f.0
followed_at (T ∷ Ts) f (suc k) l = followed_at Ts f.1 k (omega arith)

pub tests_from : (T : Test) (k : ℕ) → k < length (tests_of T) → (rest : List Test) × (drop k (tests_of T) ≡ tests_of (test (tests_of T) k) ++ rest)
tests_from T k l = followed_at (tests_of T) (followed_test T) k l

-- ── The numbers of the tests inside test k ──
module _ (T : Test) (k : ℕ) where
  -- test k is U
  abbrev pub Is : Test → Type 0
  Is U = test (tests_of T) k ≡ U

  -- test i begins inside test k, and is U
  abbrev pub Begins : ℕ → Test → Type 0
  Begins i U = Inside T k i × (i < length (tests_of T)) × (test (tests_of T) i ≡ U)

  -- the tests Us begin inside test k, and have the numbers from m on
  record Inner (m : ℕ) (Us : List Test) : Type 0 where
    within : (e : ℕ) → e < length Us → Inside T k (m + e)
    room : m + length Us ≤ length (tests_of T)
    told : (e : ℕ) → e < length Us → test (tests_of T) (m + e) ≡ test Us e

  inner_at : {U : Test} → k < length (tests_of T) → Is U → Inner (suc k) (inside U)
  inner_at {U} l h =
      let (rest, e) = tests_from T k l in
      let w : drop k (tests_of T) ≡ U ∷ (inside U ++ rest) = e ∙ ap (λ X. tests_of X ++ rest) h ∙ ap (λ Ts. Ts ++ rest) (tests_first U) in
      let n = ap length w in let m = length-drop k (tests_of T) in let a = length-append (inside U) rest in let q = ap (λ X. length (inside X)) h in record {
        within = λ i b. (omega arith, omega arith);
        room = omega arith;
        told = λ i b.
            let z : k + suc i ≡ suc k + i = omega arith in
            ap (test (tests_of T)) (sym z) ∙ sym (get_or-drop k (tests_of T) (suc i) (named [])) ∙ ap (λ Ts. test Ts (suc i)) w ∙ get_or-append (inside U) rest (named []) i b;
      }

  -- behind the last number there is no test, and `named []` is told
  inner : {U : Test} → Is U → ¬ (named [] ≡ U) → Inner (suc k) (inside U)
  inner {U} h f = go (dec_lt k (length (tests_of T)))
    where
      go : Dec (k < length (tests_of T)) → Inner (suc k) (inside U)
      go (yes l) = inner_at l h
      go (no g) = absurd (f (sym (get_or-eq_default (tests_of T) (named []) (omega arith)) ∙ h))

  -- the tests inside a test have numbers of the rule
  pub inside_number : k < length (tests_of T) → (i : ℕ) → Inside T k i → i < length (tests_of T)
  inside_number l i (g, h) = let r = (inner_at {U = test (tests_of T) k} l refl).room in omega arith

  first_inner : {m : ℕ} (U : Test) (Us : List Test) → Inner m (tests_of U ++ Us) → Begins m U
  first_inner {m} U Us h =
      let (l, e) = tests_some U in let a = length-append (tests_of U) Us in let r = h.room in let z : m + 0 ≡ m = omega arith in (
        subst (Inside T k) z (h.within 0 (omega arith)),
        omega arith,
        ap (test (tests_of T)) (sym z) ∙ h.told 0 (omega arith) ∙ get_or-append (tests_of U) Us (named []) 0 l ∙ e,
      )

  second_inner : {m : ℕ} (Us Ws : List Test) → Inner m (Us ++ Ws) → Inner (m + length Us) Ws
  second_inner {m} Us Ws h =
      let a = length-append Us Ws in let r = h.room in record {
        within = λ e b. let (g, j) = h.within (length Us + e) (omega arith) in (omega arith, omega arith);
        room = omega arith;
        told = λ e b.
            let z : m + length Us + e ≡ m + (length Us + e) = omega arith in
            ap (test (tests_of T)) z ∙ h.told (length Us + e) (omega arith) ∙ get_or-append-add Us Ws e (named []);
      }

  one_inner : {m : ℕ} (U : Test) → Inner m (tests_of U) → Begins m U
  one_inner {m} U h = first_inner U [] (subst (Inner m) (sym (append-nil (tests_of U))) h)

  pub inner_not : {U : Test} → Is (not U) → Begins (suc k) U
  inner_not {U} h = one_inner U (inner h (λ e. let z : ◌≡◌ {A = ℕ} 0 1 = cc in omega arith))

  -- the first operand, then the second
  module _ {U W : Test} where
    two_inner : Inner (suc k) (tests_of U ++ tests_of W) → Begins (suc k) U × Begins (suc k + length (tests_of U)) W
    two_inner h = (first_inner U (tests_of W) h, one_inner W (second_inner (tests_of U) (tests_of W) h))

    pub inner_two : Is (and U W) ⊎ Is (or U W) → Begins (suc k) U × Begins (suc k + length (tests_of U)) W
    inner_two (inl h) = two_inner (inner h (λ e. let z : ◌≡◌ {A = ℕ} 0 1 = cc in omega arith))
    inner_two (inr h) = two_inner (inner h (λ e. let z : ◌≡◌ {A = ℕ} 0 1 = cc in omega arith))

  -- the tests in the paths of a comparison or a count
  numbered : {Us : List Test} → Inner (suc k) Us → (e : ℕ) → e < length Us → Begins (suc k + e) (test Us e)
  numbered h e l = let r = h.room in (h.within e l, omega arith, h.told e l)

  module _ {o : Op} {P R : XPath} (h : Is (compare o P R)) where
    within_compare : Inner (suc k) (path_tests P ++ path_tests R)
    within_compare = inner h (λ e. let z : ◌≡◌ {A = ℕ} 0 1 = cc in omega arith)

    pub room_compare : suc k + length (path_tests P ++ path_tests R) ≤ length (tests_of T)
    room_compare = within_compare.room

    pub inner_compare : (e : ℕ) → e < length (path_tests P ++ path_tests R) → Begins (suc k + e) (test (path_tests P ++ path_tests R) e)
    inner_compare = numbered within_compare

  module _ {o : Op} {P : XPath} {c : List ℕ} (h : Is (compare_to o P c)) where
    within_compareTo : Inner (suc k) (path_tests P)
    within_compareTo = inner h (λ e. let z : ◌≡◌ {A = ℕ} 0 1 = cc in omega arith)

    pub room_compareTo : suc k + length (path_tests P) ≤ length (tests_of T)
    room_compareTo = within_compareTo.room

    pub inner_compareTo : (e : ℕ) → e < length (path_tests P) → Begins (suc k + e) (test (path_tests P) e)
    inner_compareTo = numbered within_compareTo

  module _ {n : ℕ} {P : XPath} (h : Is (at_least n P)) where
    within_count : Inner (suc k) (path_tests P)
    within_count = inner h (λ e. let z : ◌≡◌ {A = ℕ} 0 1 = cc in omega arith)

    pub room_count : suc k + length (path_tests P) ≤ length (tests_of T)
    room_count = within_count.room

    pub inner_count : (e : ℕ) → e < length (path_tests P) → Begins (suc k + e) (test (path_tests P) e)
    inner_count = numbered within_count
