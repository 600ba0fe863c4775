-- The snippets of a rule, counted test by test in any order: each equality between two paths adds its own.
use Prim.Native.Nat.{ℕ, zero, suc, ◌+◌, ◌-◌, ◌*◌, ◌≤◌, ◌<◌}
use native.Mathlib.Omega.{arith}
use native.Mathlib.Nat.{mul-le-mul}
use mathlib.Core.Path.{◌≡◌, refl, sym, ap, ap₂, ◌∙◌, subst}
use mathlib.Core.Logic.{◌⊎◌, inl, inr, ⊎_elim, ◌↔◌, ◌≢◌}
use mathlib.Core.List.{List, [], ◌∷◌, ◌++◌, map, append_assoc, append-nil, map-append}
use lib.ListN.{length, drop, length-append, length-map, drop_of_length-le}
use lib.Seq.{drop-cons}
use Rattle.lists.specs.Lists.{All, Occurs, Distinct}
use Rattle.lists.proofs.Lists.{all_map, occurs_append, range, occurs_range, range_occurs, range_distinct}
use Rattle.lists.proofs.Members.{around, distinct_between, same_between}
use Rattle.lists.proofs.Numerals.{binary_short}
use Rattle.xpath.specs.Syntax.{Op, eq, ne, lt, le, gt, ge, Test, named, not, and, or, compare, compare_to, at_least, XPath, empty, one, seq, union, star, Step, to_left, to_right, from_left, from_right, stay, size}
use Rattle.xpath.specs.Tree.{Tree, WellFormed}
use Rattle.snippets.specs.Count.{Pair, comparisons, in_path, in_step, Sized, Counted, SnippetCount}
use Rattle.snippets.proofs.Counting.{counted_bound, snippet_count}
use Rattle.rule_spec.specs.Verdict.{Accepts}
use Rattle.test_numbers.specs.Tests.{tests_of, path_tests, step_tests, test, Light}
use Rattle.test_numbers.specs.Owned.{own, owned}
use Rattle.test_numbers.proofs.Lights.{all_light, tests_light}

-- ── The comparisons of a rule are those of its numbered tests ──
owned_append : (Ts Us : List Test) → owned (Ts ++ Us) ≡ owned Ts ++ owned Us
unfolding owned
owned_append [] Us = refl
owned_append (T ∷ Ts) Us = ap (λ cs. own T ++ cs) (owned_append Ts Us) ∙ sym (append_assoc (own T) (owned Ts) (owned Us))

both_owned : {cs ds : List Pair} (Ts Us : List Test) → cs ≡ owned Ts → ds ≡ owned Us → cs ++ ds ≡ owned (Ts ++ Us)
both_owned Ts Us a b = ap₂ ◌++◌ a b ∙ sym (owned_append Ts Us)

-- a comparison comes before those inside its paths
own_first : (o : Op) (P R : XPath) → comparisons (compare o P R) ≡ own (compare o P R) ++ (in_path P ++ in_path R)
own_first eq P R = refl
own_first ne P R = refl
own_first lt P R = refl
own_first le P R = refl
own_first gt P R = refl
own_first ge P R = refl

mutual
  unfolding tests_of path_tests step_tests owned

  pub comparisons_owned : (T : Test) → comparisons T ≡ owned (tests_of T)
  comparisons_owned (named a) = refl
  comparisons_owned (not T) = comparisons_owned T
  comparisons_owned (and T U) = both_owned (tests_of T) (tests_of U) (comparisons_owned T) (comparisons_owned U)
  comparisons_owned (or T U) = both_owned (tests_of T) (tests_of U) (comparisons_owned T) (comparisons_owned U)
  comparisons_owned (compare o P R) = own_first o P R ∙ ap (λ cs. own (compare o P R) ++ cs) (both_owned (path_tests P) (path_tests R) (path_owned P) (path_owned R))
  comparisons_owned (compare_to o P c) = path_owned P
  comparisons_owned (at_least n P) = path_owned P

  path_owned : (P : XPath) → in_path P ≡ owned (path_tests P)
  path_owned empty = refl
  path_owned (one s) = step_owned s
  path_owned (seq P R) = both_owned (path_tests P) (path_tests R) (path_owned P) (path_owned R)
  path_owned (union P R) = both_owned (path_tests P) (path_tests R) (path_owned P) (path_owned R)
  path_owned (star P) = path_owned P

  step_owned : (s : Step) → in_step s ≡ owned (step_tests s)
  step_owned to_left = refl
  step_owned to_right = refl
  step_owned from_left = refl
  step_owned from_right = refl
  step_owned (stay T) = comparisons_owned T

-- the tests in two paths
pub paths_owned : (P R : XPath) → in_path P ++ in_path R ≡ owned (path_tests P ++ path_tests R)
paths_owned P R = both_owned (path_tests P) (path_tests R) (path_owned P) (path_owned R)

-- ── Adding ──
pub counted_none : (t : Tree) → Counted t [] 0
counted_none t = refl

counted_append : (t : Tree) (cs ds : List Pair) (a b : ℕ) → Counted t cs a → Counted t ds b → Counted t (cs ++ ds) (a + b)
counted_append t [] ds a b e h = subst (Counted t ds) (omega arith) h
counted_append t (c ∷ cs) ds a b (x, y, e, s, g) h = (x, y + b, omega arith, s, counted_append t cs ds y b g h)

-- a test has no pair of its own, or is an equality between two paths
pub own_cases : (T : Test) → (own T ≡ []) ⊎ ((P R : XPath) × (T ≡ compare eq P R))
own_cases (named a) = inl refl
own_cases (not T) = inl refl
own_cases (and T U) = inl refl
own_cases (or T U) = inl refl
own_cases (compare eq P R) = inr (P, R, refl)
own_cases (compare ne P R) = inl refl
own_cases (compare lt P R) = inl refl
own_cases (compare le P R) = inl refl
own_cases (compare gt P R) = inl refl
own_cases (compare ge P R) = inl refl
own_cases (compare_to o P c) = inl refl
own_cases (at_least n P) = inl refl

pub own_other : (T : Test) → ((P R : XPath) → T ≢ compare eq P R) → own T ≡ []
own_other T f = ⊎_elim (λ e. e) (λ (P, R, e). absurd (f P R e)) (own_cases T)

pub own_unequal : (o : Op) (P R : XPath) → o ≢ eq → own (compare o P R) ≡ []
own_unequal o P R f = own_other (compare o P R) (λ Q S e. f cc)

-- the snippets of one test by itself
pub counted_no_pair : (t : Tree) (U : Test) → own U ≡ [] → Counted t (own U) 0
counted_no_pair t U e = subst (λ cs. Counted t cs 0) (sym e) (counted_none t)

pub counted_pair : (t : Tree) (U : Test) (P R : XPath) (a : ℕ) → U ≡ compare eq P R → Sized t (record { first = P; second = R }) a → Counted t (own U) a
counted_pair t U P R a e h = subst (λ W. Counted t (own W) a) (sym e) (a, 0, omega arith, h, counted_none t)

-- ── In any order ──
range_tests : (Ts : List Test) (m n : ℕ) → m + n ≡ length Ts → map (test Ts) (range m n) ≡ drop m Ts
unfolding range
range_tests Ts m zero e = sym (drop_of_length-le Ts {i = m} (omega arith))
range_tests Ts m (suc n) e = ap (λ Us. test Ts m ∷ Us) (range_tests Ts (suc m) n (omega arith)) ∙ sym (drop-cons Ts m (named []) (omega arith))

module _ (t : Tree) where
  counted_split : (cs ds : List Pair) (n : ℕ) → Counted t (cs ++ ds) n → (a b : ℕ) × (n ≡ a + b) × Counted t cs a × Counted t ds b
  counted_split [] ds n h = (0, n, omega arith, refl, h)
  counted_split (c ∷ cs) ds n (x, y, e, s, g) = let (a, b, f, h, k) = counted_split cs ds y g in (x + a, b, omega arith, (x, a, refl, s, h), k)

  -- some more in between
  counted_between : (cs xs ys : List Pair) (a b : ℕ) → Counted t cs a → Counted t (xs ++ ys) b → Counted t (xs ++ (cs ++ ys)) (a + b)
  counted_between cs xs ys a b h g =
      let (x, y, e, k, l) = counted_split xs ys b g in
      subst (Counted t (xs ++ (cs ++ ys))) (omega arith) (counted_append t xs (cs ++ ys) x (a + y) k (counted_append t cs ys a y h l))

  module _ {A : Type 0} (f : A → Test) where
    owned_map : (xs ys : List A) → owned (map f (xs ++ ys)) ≡ owned (map f xs) ++ owned (map f ys)
    owned_map xs ys = ap owned (map-append f xs ys) ∙ owned_append (map f xs) (map f ys)

    -- one more at the end
    pub counted_last : (xs : List A) (x : A) (a b : ℕ) → Counted t (owned (map f xs)) a → Counted t (own (f x)) b → Counted t (owned (map f (xs ++ x ∷ []))) (a + b)
    unfolding owned
    counted_last xs x a b h g =
        subst (λ cs. Counted t cs (a + b)) (sym (owned_map xs (x ∷ []) ∙ ap (λ cs. owned (map f xs) ++ cs) (append-nil (own (f x)))))
        (counted_append t (owned (map f xs)) (own (f x)) a b h g)

    -- two lists without repetition and with the same members have the same number
    pub counted_order : (xs ys : List A) → Distinct xs → Distinct ys → ((x : A) → Occurs x xs ↔ Occurs x ys)
        → (n : ℕ) → Counted t (owned (map f xs)) n → Counted t (owned (map f ys)) n
    unfolding owned
    counted_order [] [] d c same n h = h
    counted_order [] (y ∷ ys) d c same n h = absurd ((same y).1 (inl refl))
    counted_order (x ∷ xs) ys d c same n h =
        let s = around x ys ((same x).0 (inl refl)) in
        let once = subst Distinct s.whole c in
        let others = same_between x xs s.front s.rear d once (subst (λ zs. (z : A) → Occurs z (x ∷ xs) ↔ Occurs z zs) s.whole same) in
        let (a, b, e, k, l) = counted_split (own (f x)) (owned (map f xs)) n h in
        let g = subst (λ cs. Counted t cs b) (owned_map s.front s.rear) (counted_order xs (s.front ++ s.rear) d.1 (distinct_between x s.front s.rear once).1 others b l) in
        subst (Counted t (owned (map f ys))) (sym e)
        (subst (λ cs. Counted t cs (a + b)) (sym (ap (λ zs. owned (map f zs)) s.whole ∙ owned_map s.front (x ∷ s.rear)))
        (counted_between (own (f x)) (owned (map f s.front)) (owned (map f s.rear)) a b k g))

  -- those from m on
  pub counted_from : (Ts : List Test) (m : ℕ) (ks : List ℕ) → m ≤ length Ts → Distinct ks → ((k : ℕ) → Occurs k ks ↔ ((m ≤ k) × (k < length Ts)))
      → (n : ℕ) → Counted t (owned (map (test Ts) ks)) n → Counted t (owned (drop m Ts)) n
  counted_from Ts m ks h d same n g =
      let z : m + (length Ts - m) ≡ length Ts = omega arith in
      subst (λ Us. Counted t (owned Us) n) (range_tests Ts m (length Ts - m) z)
      (counted_order (test Ts) ks (range m (length Ts - m)) d (range_distinct m (length Ts - m))
      (λ k. (
        (λ o. let (l, r) = (same k).0 o in occurs_range k m (length Ts - m) l (omega arith)),
        λ o. let (l, r) = range_occurs k m (length Ts - m) o in (same k).1 (l, omega arith),
      ))
      n g)

-- ── How many ──
own_few : (T : Test) → length (own T) ≤ 1
own_few T = go (own_cases T)
  where
    go : (own T ≡ []) ⊎ ((P R : XPath) × (T ≡ compare eq P R)) → length (own T) ≤ 1
    go (inl e) = rw e (omega arith)
    go (inr (P, R, e)) = rw e (omega arith)

owned_few : (Ts : List Test) → length (owned Ts) ≤ length Ts
unfolding owned
owned_few [] = omega arith
owned_few (T ∷ Ts) = let l = length-append (own T) (owned Ts) in let a = own_few T in let b = owned_few Ts in omega arith

own_light : (T : Test) → Light T → (c : Pair) → Occurs c (own T) → size c.first + size c.second ≤ 14
own_light T l c o = go (own_cases T)
  where
    go : (own T ≡ []) ⊎ ((P R : XPath) × (T ≡ compare eq P R)) → size c.first + size c.second ≤ 14
    go (inl e) = absurd (subst (Occurs c) e o)
    go (inr (P, R, e)) =
        ⊎_elim (λ f. subst (λ (d : Pair). size d.first + size d.second ≤ 14) (sym f) (subst Light e l)) (λ z. absurd z) (subst (λ U. Occurs c (own U)) e o)

owned_light : (Ts : List Test) → All Light Ts → (c : Pair) → Occurs c (owned Ts) → size c.first + size c.second ≤ 14
unfolding owned
owned_light [] l c o = absurd o
owned_light (T ∷ Ts) (l, ls) c o = ⊎_elim (λ h. own_light T l c h) (λ h. owned_light Ts ls c h) (occurs_append c (own T) (owned Ts) o)

-- within the limits of a rule and a document, the sum is far below 2 ^ 32
pub counted_fits : (t : Tree) → WellFormed t → t.size ≤ 4096 → (cs : List Pair)
    → ((c : Pair) → Occurs c cs → size c.first + size c.second ≤ 14) → length cs ≤ 64 → (n : ℕ) → Counted t cs n → n ≤ 128 * 4096 * 13 * 64
counted_fits t wf nodes cs few short n h =
    let b = binary_short t.size 13 (omega arith) (omega arith) in
    let a : 128 * t.size ≤ 128 * 4096 = omega arith in
    let p = mul-le-mul {n₂ = 128 * 4096 * 13} {m₂ = 64} (mul-le-mul {n₂ = 128 * 4096} {m₂ = 13} a b) short in
    let q = counted_bound t wf cs few n h in
    omega arith

-- ── In an accepted rule ──
module _ {s : List ℕ} {T : Test} (accepts : Accepts s T) (t : Tree) (wf : WellFormed t) where
  -- the sum on the way, of at most 64 tests
  pub counted_small : t.size ≤ 4096 → (ks : List ℕ) → All (λ k. k < length (tests_of T)) ks → length ks ≤ 64
      → (n : ℕ) → Counted t (owned (map (test (tests_of T)) ks)) n → n ≤ 128 * 4096 * 13 * 64
  counted_small nodes ks numbers short n h =
      let l = length-map ks (test (tests_of T)) in let f = owned_few (map (test (tests_of T)) ks) in
      let light = all_map (λ k. k < length (tests_of T)) Light (test (tests_of T)) (tests_light accepts) ks numbers in
      counted_fits t wf nodes (owned (map (test (tests_of T)) ks)) (owned_light (map (test (tests_of T)) ks) light) (omega arith) n h

  -- the sum of all
  pub counted_rule : (n : ℕ) → Counted t (owned (tests_of T)) n → SnippetCount t T n
  counted_rule n h =
      snippet_count t wf T (λ c o. owned_light (tests_of T) (all_light accepts) c (subst (Occurs c) (comparisons_owned T) o)) n
      (subst (λ cs. Counted t cs n) (sym (comparisons_owned T)) h)
