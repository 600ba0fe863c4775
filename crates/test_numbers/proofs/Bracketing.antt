-- The numbers of the tests in a path's brackets from those of its parts; how many tests stand behind the first byte of a test or a bracket.
use Prim.Native.Nat.{ℕ, suc, ◌+◌, ◌≤◌, ◌<◌}
use native.Mathlib.Omega.{arith}
use native.Mathlib.Decide.{ℕ_discrete}
use Rattle.std.specs.Prelude.{Option, Some, None}
use mathlib.Core.Path.{◌≡◌, refl, sym, ap, subst, ◌∙◌}
use mathlib.Core.Logic.{◌⊎◌, inl, inr}
use mathlib.Core.List.{List, [], ◌∷◌, ◌++◌, append-nil}
use lib.ListN.{length, get_or, set, replicate, length-append, get_or-replicate, get_or-append}
use lib.Seq.{get_or-set_same, get_or-set_other, get_or-append-add}
use types.Run.{OneOf}
use Rattle.xpath.specs.Syntax.{Test, named, and, or, XPath, empty, Step, stay, steps, size}
use Rattle.positions.specs.Positions.{Numbered}
use Rattle.positions.proofs.Runs.{num_in, num_split}
use Rattle.rule_spec.specs.Parts.{tests, test_parts}
use Rattle.rule_parts.specs.Standing.{TestAt, PathAt}
use Rattle.rule_parts.specs.Kinds.{path_kind}
use Rattle.rule_parts.specs.declared.kinds.PathKind.{PathKind}
use Rattle.rule_parts.specs.declared.kinds.PathKind.TheVariants.{Empty, Stay, Star}
use Rattle.rule_parts.proofs.Tallying.{count_test}
use Rattle.rule_parts.proofs.Inner.{and_inner, or_inner}
use Rattle.path_sets.specs.Paths.{SecondAt, PathsAt}
use Rattle.test_numbers.specs.Tests.{tests_of, path_tests, test}
use Rattle.test_numbers.specs.Numbering.{Brackets, TwoNumbered, NumbersTwo}
use Rattle.test_numbers.specs.Walks.{Bracketed, Small, Walked, PathRoom, Walks}
use Rattle.test_numbers.specs.declared.Next.{Next}
use Rattle.test_numbers.proofs.Counts.{tests_some, tests_counted}
use Rattle.test_numbers.proofs.Shapes.{test_long, path_long, path_tag, path_of, step_of, pair_of}

abbrev next : ℕ → ℕ → Next
next b k = record { step = b; test = k }

-- ── What is written ──
module _ {b k : ℕ} {f : List ℕ} where
  walked_none : Walked [] [] b k f f (next b k)
  walked_none = record { bracketed = λ i T h. absurd h; kept = λ i l. refl; small = λ h. h; step = omega arith; test = omega arith }

  walked_step : (t : Step) → ((T : Test) → ¬ (t ≡ stay T)) → Walked (t ∷ []) [] b k f f (next (b + 1) k)
  walked_step t plain = record { bracketed = λ i T h. absurd (none i T h); kept = λ i l. refl; small = λ h. h; step = refl; test = omega arith }
    where
      none : (i : ℕ) (T : Test) → ((i ≡ b) × (t ≡ stay T)) ⊎ ⊥ → ⊥
      none i T (inl (e, h)) = plain T h
      none i T (inr h) = h

  -- the test in a bracket is the first of its tests
  walked_bracket : (T : Test) → b < length f → k < 64 → {n : ℕ} → n ≡ length (tests_of T) → Walked (stay T ∷ []) (tests_of T) b k f (set f b k) (next (b + 1) (k + n))
  walked_bracket T l r e = record {
    bracketed = here;
    kept = λ i c. get_or-set_other f b i k 0 (λ z. omega arith);
    small = λ h i c. low h i c (ℕ_discrete i b);
    step = refl;
    test = ap (λ m. k + m) e;
  }
    where
      same : get_or (set f b k) b 0 ≡ k
      same = get_or-set_same f b k 0 l

      here : (i : ℕ) (U : Test) → ((i ≡ b) × (stay T ≡ stay U)) ⊎ ⊥ → (e : ℕ) × (get_or (set f b k) i 0 ≡ k + e) × (e < length (tests_of T)) × (test (tests_of T) e ≡ U)
      here i U (inl (z, h)) =
          let (some, first) = tests_some T in let w : T ≡ U = cc in let x = ap (λ (m : ℕ). get_or (set f b k) m 0) z in let y = same in
          (0, omega arith, some, first ∙ w)
      here i U (inr h) = absurd h

      low : Small f → (i : ℕ) → i < 16 → Dec (i ≡ b) → get_or (set f b k) i 0 < 64
      low h i c (yes z) = let x = ap (λ (m : ℕ). get_or (set f b k) m 0) z in let y = same in omega arith
      low h i c (no z) = let x = get_or-set_other f b i k 0 z in let y = h i c in omega arith

walked_both : {xs ys : List Step} {Ts Us : List Test} {b k : ℕ} {f g h : List ℕ} {p q : Next} → Walked xs Ts b k f g p → Walked ys Us p.step p.test g h q
    → Walked (xs ++ ys) (Ts ++ Us) b k f h q
walked_both {xs} {ys} {Ts} {Us} {b} {k} {f} {g} {h} {p} {q} u v =
    let m = u.step in let n = u.test in let x = v.step in let y = v.test in
    let c = length-append xs ys in let d = length-append Ts Us in record {
      bracketed = λ i T o. go i T (num_split xs ys b i (stay T) o);
      kept = λ i l. v.kept i (omega arith) ∙ u.kept i l;
      small = λ l. v.small (u.small l);
      step = omega arith;
      test = omega arith;
    }
  where
    go : (i : ℕ) (T : Test) → Numbered b xs i (stay T) ⊎ Numbered (b + length xs) ys i (stay T)
        → (e : ℕ) × (get_or h i 0 ≡ k + e) × (e < length (Ts ++ Us)) × (test (Ts ++ Us) e ≡ T)
    go i T (inl o) =
        let (e, z, l, w) = u.bracketed i T o in let r = num_in xs b i (stay T) o in let m = u.step in let d = length-append Ts Us in
        (e, v.kept i (omega arith) ∙ z, omega arith, get_or-append Ts Us (named []) e l ∙ w)
    go i T (inr o) =
        let n = u.test in let d = length-append Ts Us in
        let (e, z, l, w) = v.bracketed i T (subst (λ m. Numbered m ys i (stay T)) (sym u.step) o) in
        (length Ts + e, omega arith, omega arith, get_or-append-add Ts Us e (named []) ∙ w)

module _ (s : List ℕ) where
  -- ── Two paths ──
  module _ (at behind b k : ℕ) where
    -- their steps are xs and their tests Ts
    pub record Pair (xs : List Step) (Ts : List Test) : Type 0 where
      first : XPath
      second : XPath
      first_end_lem : ℕ
      second_end_lem : ℕ
      first_at_lem : PathAt s first at first_end_lem
      second_at_lem : PathAt s second behind second_end_lem
      both : xs ≡ steps first ++ steps second
      tests : Ts ≡ path_tests first ++ path_tests second
      few : b + length xs ≤ 16
      room : k + length Ts ≤ 64

    module _ {xs : List Step} {Ts : List Test} (t : Pair xs Ts) where
      steps_fit : b + size t.first + size t.second ≤ 16
      steps_fit = let l = t.few in let e = ap length t.both in let n = length-append (steps t.first) (steps t.second) in omega arith

      tests_fit : k + length (path_tests t.first) + length (path_tests t.second) ≤ 64
      tests_fit = let l = t.room in let e = ap length t.tests in let n = length-append (path_tests t.first) (path_tests t.second) in omega arith

      pub first_room : PathRoom s at b k
      first_room = let l = steps_fit in let m = tests_fit in (t.first, t.first_end_lem, t.first_at_lem, omega arith, omega arith)

      module _ {f g : List ℕ} {p : Next} (u : Walks s at b k f g p) where
        first_walked : Walked (steps t.first) (path_tests t.first) b k f g p
        first_walked = let l = steps_fit in let m = tests_fit in u t.first t.first_end_lem t.first_at_lem (omega arith) (omega arith)

        second_fits : (p.step + size t.second ≤ 16) × (p.test + length (path_tests t.second) ≤ 64)
        second_fits = let l = steps_fit in let m = tests_fit in let x = first_walked.step in let y = first_walked.test in (omega arith, omega arith)

        pub second_room : PathRoom s behind p.step p.test
        second_room = let (l, m) = second_fits in (t.second, t.second_end_lem, t.second_at_lem, l, m)

        pub pair_walked : {h : List ℕ} {q : Next} → Walks s behind p.step p.test g h q → Walked xs Ts b k f h q
        pair_walked {h} {q} v =
            let (l, m) = second_fits in
            subst (λ ys. Walked ys Ts b k f h q) (sym t.both)
            (subst (λ Us. Walked (steps t.first ++ steps t.second) Us b k f h q) (sym t.tests)
            (walked_both first_walked (v t.second t.second_end_lem t.second_at_lem l m)))

  -- ── The tests that begin inside a bracket or behind & and | ──
  module _ (at : ℕ) {end : ℕ} (skipped : (T : Test) (j : ℕ) → TestAt s T (at + 1) j → end ≡ j) where
    pub ended : (T : Test) (j : ℕ) → TestAt s T (at + 1) j → (at < end) × (end ≤ length s) × TestAt s T (at + 1) end
    ended T j a = let e = skipped T j a in let h = test_long s a in (omega arith, omega arith, subst (TestAt s T (at + 1)) (sym e) a)

    module _ {n : ℕ} (counted : (T : Test) → TestAt s T (at + 1) end → n ≡ length (tests (test_parts T (at + 1) 1))) where
      pub count_told : (T : Test) (j : ℕ) → TestAt s T (at + 1) j → (n ≡ length (tests_of T)) × (n ≤ length s)
      count_told T j a =
          let (h, l, b) = ended T j a in let e = counted T b in let m = count_test T (at + 1) 1 in let d = b.spans.ends in
          (e ∙ tests_counted T (at + 1) 1, omega arith)

  -- what holds of the first test behind & and |
  pub either : (k : ℕ) {at r : ℕ} → ((T : Test) (m : ℕ) → TestAt s T (at + 1) m → r ≡ suc k + length (tests_of T))
      → ((T U : Test) (j : ℕ) → TestAt s (and T U) at j → r ≡ suc k + length (tests_of T)) × ((T U : Test) (j : ℕ) → TestAt s (or T U) at j → r ≡ suc k + length (tests_of T))
  either k f = (λ T U j h. let (m, a, b) = and_inner s h in f T m a, λ T U j h. let (m, a, b) = or_inner s h in f T m a)

  -- ── The kinds of paths ──
  pub room_long : (at b k : ℕ) → PathRoom s at b k → at < length s
  room_long at b k (P, j, a, l, m) = let h = path_long s a in omega arith

  module _ {at : ℕ} {kind : PathKind} (told : (P : XPath) (j : ℕ) → PathAt s P at j → kind ≡ path_kind P) (b k : ℕ) where
    -- a path whose steps and tests are known
    retold : (P : XPath) {f g : List ℕ} {r : Next} {xs : List Step} {Ts : List Test} → steps P ≡ xs → path_tests P ≡ Ts → Walked xs Ts b k f g r → Walked (steps P) (path_tests P) b k f g r
    retold P {f} {g} {r} {xs} e d w = subst (λ ys. Walked ys (path_tests P) b k f g r) (sym e) (subst (λ Us. Walked xs Us b k f g r) (sym d) w)

    pub empty_walks : (f : List ℕ) → kind ≡ Empty → Walks s at b k f f (next b k)
    empty_walks f e P j a l m = let (x, y) = path_of s told P j a 0 (ap path_tag e) in retold P x y walked_none

    pub step_room : OneOf (1 ∷ 2 ∷ 3 ∷ 4 ∷ []) (path_tag kind) → PathRoom s at b k → b < 16
    step_room o (P, j, a, l, m) = let (t, x, plain, y) = step_of s told P j a o in let n = ap length x in omega arith

    pub step_walks : (f : List ℕ) → OneOf (1 ∷ 2 ∷ 3 ∷ 4 ∷ []) (path_tag kind) → Walks s at b k f f (next (b + 1) k)
    step_walks f o P j a l m = let (t, x, plain, y) = step_of s told P j a o in retold P x y (walked_step t plain)

    module _ (bracket : kind ≡ Stay) where
      bracketed : (P : XPath) (j : ℕ) → PathAt s P at j → b + size P ≤ 16 → k + length (path_tests P) ≤ 64
          → (T : Test) × (m : ℕ) × TestAt s T (at + 1) m × (steps P ≡ stay T ∷ []) × (path_tests P ≡ tests_of T) × (b < 16) × (k + length (tests_of T) ≤ 64)
      bracketed P j a l r =
          let (T, m, c, x, y) = path_of s told P j a 5 (ap path_tag bracket) in let n = ap length x in
          (T, m, c, x, y, omega arith, subst (λ Ts. k + length Ts ≤ 64) y r)

      pub bracket_step : PathRoom s at b k → b < 16
      bracket_step (P, j, a, l, r) = let (T, m, c, x, y, z, w) = bracketed P j a l r in z

      module _ {end : ℕ} (skipped : (T : Test) (j : ℕ) → TestAt s T (at + 1) j → end ≡ j) where
        pub bracket_end : PathRoom s at b k → (at < end) × (end ≤ length s)
        bracket_end (P, j, a, l, r) = let (T, m, c, x, y, z, w) = bracketed P j a l r in let (d, e, h) = ended at skipped T m c in (d, e)

        module _ {n : ℕ} (counted : (T : Test) → TestAt s T (at + 1) end → n ≡ length (tests (test_parts T (at + 1) 1))) where
          pub bracket_room : PathRoom s at b k → k + n ≤ 64
          bracket_room (P, j, a, l, r) = let (T, m, c, x, y, z, w) = bracketed P j a l r in let (e, h) = count_told at skipped counted T m c in omega arith

          pub bracket_walks : {f : List ℕ} → 16 ≤ length f → Walks s at b k f (set f b k) (next (b + 1) (k + n))
          bracket_walks long P j a l r =
              let (T, m, c, x, y, z, w) = bracketed P j a l r in let (e, h) = count_told at skipped counted T m c in let (some, first) = tests_some T in
              retold P x y (walked_bracket T (omega arith) (omega arith) e)

    pub star_room : kind ≡ Star → PathRoom s at b k → PathRoom s (at + 1) b k
    star_room e (P, j, a, l, m) =
        let (A, c, x, y) = path_of s told P j a 8 (ap path_tag e) in
        (A, j, c, subst (λ xs. b + length xs ≤ 16) x l, subst (λ Ts. k + length Ts ≤ 64) y m)

    pub star_walks : {f g : List ℕ} {r : Next} → kind ≡ Star → Walks s (at + 1) b k f g r → Walks s at b k f g r
    star_walks e w P j a l m =
        let (A, c, x, y) = path_of s told P j a 8 (ap path_tag e) in
        retold P x y (w A j c (subst (λ xs. b + length xs ≤ 16) x l) (subst (λ Ts. k + length Ts ≤ 64) y m))

    module _ (pair : OneOf (6 ∷ 7 ∷ []) (path_tag kind)) {n : ℕ} (skipped : (P : XPath) (j : ℕ) → PathAt s P (at + 1) j → n ≡ j) where
      path_pair : (P : XPath) (j : ℕ) → PathAt s P at j → b + size P ≤ 16 → k + length (path_tests P) ≤ 64 → Pair (at + 1) n b k (steps P) (path_tests P) × (at < n)
      path_pair P j a l r =
          let (A, B, m, c, d, x, y) = pair_of s told P j a pair in let h = skipped A m c in let z = path_long s c in (
            record { first = A; second = B; first_end_lem = m; second_end_lem = j; first_at_lem = c; second_at_lem = subst (λ i. PathAt s B i j) (sym h) d; both = x; tests = y; few = l; room = r },
            omega arith,
          )

      pub paths_two : PathRoom s at b k → (xs : List Step) × (Ts : List Test) × Pair (at + 1) n b k xs Ts × (at < n)
      paths_two (P, j, a, l, r) = let (t, h) = path_pair P j a l r in (steps P, path_tests P, t, h)

      pub pair_walks : {f g h : List ℕ} {p q : Next} → Walks s (at + 1) b k f g p → Walks s n p.step p.test g h q → Walks s at b k f h q
      pair_walks u v P j a l r = pair_walked (at + 1) n b k (path_pair P j a l r).0 u v

  -- ── The paths of a comparison or a count, their steps numbered from 1 ──
  clear : Small (replicate 16 0)
  clear i l = let e = get_or-replicate {A = ℕ} 16 i 0 0 l in omega arith

  module _ (at k : ℕ) {behind : Option ℕ} where
    pub first_numbered : TwoNumbered s at behind k → PathRoom s at 1 k
    first_numbered (P, R, a, r) = let l = a.few in let n = length-append (path_tests P) (path_tests R) in (P, a.end, a.first, omega arith, omega arith)

    module _ {b : ℕ} (there : behind ≡ Some b) where
      pair_at_lem : (P R : XPath) → PathsAt s at behind P R → k + length (path_tests P ++ path_tests R) ≤ 64 → Pair at b 1 k (steps P ++ steps R) (path_tests P ++ path_tests R)
      pair_at_lem P R a r =
          let l = a.few in let n = length-append (steps P) (steps R) in let (j, c) = subst (SecondAt s R) there a.second in
          record { first = P; second = R; first_end_lem = a.end; second_end_lem = j; first_at_lem = a.first; second_at_lem = c; both = refl; tests = refl; few = omega arith; room = r }

      pub compared : TwoNumbered s at behind k → (xs : List Step) × (Ts : List Test) × Pair at b 1 k xs Ts
      compared (P, R, a, r) = (steps P ++ steps R, path_tests P ++ path_tests R, pair_at_lem P R a r)

      pub second_numbered : {f : List ℕ} {p : Next} → TwoNumbered s at behind k → Walks s at 1 k (replicate 16 0) f p → PathRoom s b p.step p.test
      second_numbered (P, R, a, r) u = second_room at b 1 k (pair_at_lem P R a r) u

      pub two_told : {f g : List ℕ} {p q : Next} → Walks s at 1 k (replicate 16 0) f p → Walks s b p.step p.test f g q → NumbersTwo s at behind k g
      two_told u v P R a r = let w = pair_walked at b 1 k (pair_at_lem P R a r) u v in record { small = w.small clear; numbered = w.bracketed }

    -- nothing is numbered in an empty second path
    pub alone_told : {f : List ℕ} {p : Next} → behind ≡ None → Walks s at 1 k (replicate 16 0) f p → NumbersTwo s at behind k f
    unfolding path_tests
    alone_told {f} none u P R a r =
        subst (λ X. k + length (path_tests P ++ path_tests X) ≤ 64 → Brackets P X k f) (sym (subst (SecondAt s R) none a.second)) alone r
      where
        alone : k + length (path_tests P ++ path_tests empty) ≤ 64 → Brackets P empty k f
        alone r =
            let l = a.few in let n = length-append (path_tests P) [] in
            let w = u P a.end a.first (omega arith) (omega arith) in record {
              small = w.small clear;
              numbered =
                  subst (λ xs. Bracketed xs (path_tests P ++ []) 1 k f) (sym (append-nil (steps P)))
                  (subst (λ Ts. Bracketed (steps P) Ts 1 k f) (sym (append-nil (path_tests P))) w.bracketed);
            }
