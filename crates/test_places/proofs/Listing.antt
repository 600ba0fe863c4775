-- The offsets of a test's tests from those of its parts.
use Prim.Native.Nat.{ℕ, zero, suc, ◌+◌, ◌-◌, ◌≤◌, ◌<◌}
use native.Mathlib.Omega.{arith}
use native.Mathlib.Decide.{dec_lt}
use mathlib.Core.Path.{◌≡◌, refl, sym, ap, subst, ◌∙◌}
use mathlib.Core.List.{List, [], ◌∷◌, ◌++◌}
use lib.ListN.{length, get_or, set, drop, length-append, get_or-append}
use lib.Seq.{get_or-set_same, get_or-set_other, get_or-append-add}
use types.Run.{OneOf}
use Rattle.xpath.specs.Syntax.{Test, named, at_least, XPath}
use Rattle.rule_spec.specs.Verdict.{Accepts}
use Rattle.tokens.specs.Readers.{Stands, Lacks}
use Rattle.rule_parts.specs.Standing.{TestAt, PathAt}
use Rattle.rule_parts.specs.Kinds.{test_kind, path_kind}
use Rattle.rule_parts.specs.Middles.{Parted, Counted}
use Rattle.rule_parts.specs.declared.Middle.{Middle}
use Rattle.rule_parts.specs.declared.Count as counts
use Rattle.rule_parts.specs.declared.kinds.TestKind.{TestKind}
use Rattle.rule_parts.specs.declared.kinds.TestKind.TheVariants.{Named, Not, Comparison, Count}
use Rattle.rule_parts.specs.declared.kinds.PathKind.{PathKind}
use Rattle.rule_parts.specs.declared.kinds.PathKind.TheVariants.{Stay, Star}
use Rattle.rule_parts.proofs.Inner.{rule_at}
use Rattle.rule_parts.proofs.Operands.{unquoted, quote_stands}
use Rattle.test_numbers.specs.Tests.{tests_of, path_tests, test, inside}
use Rattle.test_numbers.proofs.Counts.{tests_first, tests_few}
use Rattle.test_numbers.proofs.Shapes.{test_long, path_long, path_tag, path_of, testless_of, pair_of}
use Rattle.test_places.specs.Places.{Listed, Written, Room, Lists}
use Rattle.test_places.proofs.Shapes.{test_tag, Second, path, constant, test_of, two_of}

module _ (s : List ℕ) where
  -- ── What is written ──
  written_none : {f : List ℕ} {k : ℕ} → Written s [] k f f k
  written_none = record { stands = λ e l. absurd (omega arith); kept = λ i l. refl; next = omega arith }

  -- a test is written before those inside it
  written_first : {T : Test} {Ts : List Test} {at j k r : ℕ} {f g : List ℕ} → k < length f → TestAt s T at j → Written s Ts (k + 1) (set f k at) g r → Written s (T ∷ Ts) k f g r
  written_first {T} {Ts} {at} {j} {k} {r} {f} {g} l a w = let n = w.next in record {
    stands = go;
    kept = λ i b. w.kept i (omega arith) ∙ get_or-set_other f k i at 0 (λ e. omega arith);
    next = omega arith;
  }
    where
      go : (e : ℕ) → e < suc (length Ts) → (j : ℕ) × TestAt s (test (T ∷ Ts) e) (get_or g (k + e) 0) j
      go zero b =
          let z : k + 0 ≡ k = omega arith in
          let x : get_or g (k + 0) 0 ≡ at = ap (λ i. get_or g i 0) z ∙ w.kept k (omega arith) ∙ get_or-set_same f k at 0 l in
          (j, subst (λ d. TestAt s T d j) (sym x) a)
      go (suc e) b =
          let (m, x) = w.stands e (omega arith) in let z : k + 1 + e ≡ k + suc e = omega arith in
          (m, subst (λ i. TestAt s (test Ts e) (get_or g i 0) m) z x)

  written_both : {Ts Us : List Test} {k p r : ℕ} {f g h : List ℕ} → Written s Ts k f g p → Written s Us p g h r → Written s (Ts ++ Us) k f h r
  written_both {Ts} {Us} {k} {p} {r} {f} {g} {h} u v = let n = u.next in let m = v.next in let l = length-append Ts Us in record {
    stands = λ e b. go e (omega arith) (dec_lt e (length Ts));
    kept = λ i b. v.kept i (omega arith) ∙ u.kept i b;
    next = omega arith;
  }
    where
      go : (e : ℕ) → e < length Ts + length Us → Dec (e < length Ts) → (j : ℕ) × TestAt s (test (Ts ++ Us) e) (get_or h (k + e) 0) j
      go e b (yes c) =
          let (j, x) = u.stands e c in let n = u.next in
          let y = subst (λ d. TestAt s (test Ts e) d j) (sym (v.kept (k + e) (omega arith))) x in
          (j, subst (λ T. TestAt s T (get_or h (k + e) 0) j) (sym (get_or-append Ts Us (named []) e c)) y)
      go e b (no c) =
          let n = u.next in let i = e - length Ts in
          let z : length Ts + i ≡ e = omega arith in let y : p + i ≡ k + e = omega arith in
          let (j, x) = v.stands i (omega arith) in
          let t : test Us i ≡ test (Ts ++ Us) e = sym (get_or-append-add Ts Us i (named [])) ∙ ap (test (Ts ++ Us)) z in
          (j, subst (λ m. TestAt s (test (Ts ++ Us) e) (get_or h m 0) j) y (subst (λ T. TestAt s T (get_or h (p + i) 0) j) t x))

  -- ── Two of a kind, the second behind the first ──
  module _ {A : Type 0} (At : A → ℕ → ℕ → Type 0) (tests : A → List Test) (at behind k : ℕ) where
    -- their tests Ts have numbers below 64 from k on
    pub record Halves (Ts : List Test) : Type 0 where
      first : A
      second : A
      first_end_lem : ℕ
      second_end_lem : ℕ
      first_at_lem : At first at first_end_lem
      second_at_lem : At second behind second_end_lem
      pub after : at ≤ behind
      both : Ts ≡ tests first ++ tests second
      room : k + length Ts ≤ 64

    module _ {Ts : List Test} (t : Halves Ts) where
      split : k + length (tests t.first) + length (tests t.second) ≤ 64
      split = let l = t.room in let e = ap length t.both in let n = length-append (tests t.first) (tests t.second) in omega arith

      pub first_room : Room At tests at k
      first_room = let l = split in (t.first, t.first_end_lem, t.first_at_lem, omega arith)

      module _ {p : ℕ} {f g : List ℕ} (w : Lists At tests at k s f g p) where
        first_written : Written s (tests t.first) k f g p
        first_written = let l = split in w t.first t.first_end_lem t.first_at_lem (omega arith)

        second_fits : p + length (tests t.second) ≤ 64
        second_fits = let l = split in let n = first_written.next in omega arith

        pub second_room : Room At tests behind p
        second_room = (t.second, t.second_end_lem, t.second_at_lem, second_fits)

        pub halves_written : {h : List ℕ} {r : ℕ} → Lists At tests behind p s g h r → Written s Ts k f h r
        halves_written {h} {r} v =
            subst (λ Us. Written s Us k f h r) (sym t.both) (written_both first_written (v t.second t.second_end_lem t.second_at_lem second_fits))

  -- ── Something stands there ──
  pub test_room_long : (at k : ℕ) → Room (TestAt s) inside at k → at < length s
  test_room_long at k (T, j, a, l) = let h = test_long s a in omega arith

  pub path_room_long : (at k : ℕ) → Room (PathAt s) path_tests at k → at < length s
  path_room_long at k (P, j, a, l) = let h = path_long s a in omega arith

  -- ── A test, and the tests inside it ──
  module _ (at k : ℕ) where
    pub inside_room : Room (TestAt s) tests_of at k → Room (TestAt s) inside at (k + 1)
    inside_room (T, j, a, l) = let e = ap length (tests_first T) in (T, j, a, omega arith)

    -- the test itself has room
    pub one_room : Room (TestAt s) tests_of at k → k < 64
    one_room (T, j, a, l) = let e = ap length (tests_first T) in omega arith

    pub test_lists : {f g : List ℕ} {r : ℕ} → 64 ≤ length f → Lists (TestAt s) inside at (k + 1) s (set f k at) g r → Lists (TestAt s) tests_of at k s f g r
    test_lists {f} {g} {r} long w T j a l =
        let e = tests_first T in let n = ap length e in
        subst (λ Ts. Written s Ts k f g r) (sym e) (written_first (omega arith) a (w T j a (omega arith)))

  module _ {at : ℕ} {kind : TestKind} (told : (T : Test) (j : ℕ) → TestAt s T at j → kind ≡ test_kind T) (k : ℕ) where
    -- ── The kinds of tests ──
    pub named_lists : (f : List ℕ) → kind ≡ Named → Lists (TestAt s) inside at k s f f k
    named_lists f e T j a l = subst (λ Ts. Written s Ts k f f k) (sym (test_of s told T j a 0 (ap test_tag e))) written_none

    pub not_room : kind ≡ Not → Room (TestAt s) inside at k → Room (TestAt s) tests_of (at + 1) k
    not_room e (T, j, a, l) = let (U, b, h) = test_of s told T j a 1 (ap test_tag e) in (U, j, b, subst (λ Ts. k + length Ts ≤ 64) h l)

    pub not_lists : {f g : List ℕ} {r : ℕ} → kind ≡ Not → Lists (TestAt s) tests_of (at + 1) k s f g r → Lists (TestAt s) inside at k s f g r
    not_lists {f} {g} {r} e w T j a l =
        let (U, b, h) = test_of s told T j a 1 (ap test_tag e) in
        subst (λ Ts. Written s Ts k f g r) (sym h) (w U j b (subst (λ Ts. k + length Ts ≤ 64) h l))

    module _ (two : OneOf (2 ∷ 3 ∷ []) (test_tag kind)) {n : ℕ} (skipped : (T : Test) (j : ℕ) → TestAt s T (at + 1) j → n ≡ j) where
      test_halves : (T : Test) (j : ℕ) → TestAt s T at j → k + length (inside T) ≤ 64 → Halves (TestAt s) tests_of (at + 1) n k (inside T)
      test_halves T j a l =
          let (U, W, m, b, c, e) = two_of s told T j a two in let h = skipped U m b in let z = test_long s b in
          record { first = U; second = W; first_end_lem = m; second_end_lem = j; first_at_lem = b; second_at_lem = subst (λ i. TestAt s W i j) (sym h) c; after = omega arith; both = e; room = l }

      pub tests_two : Room (TestAt s) inside at k → (Ts : List Test) × Halves (TestAt s) tests_of (at + 1) n k Ts
      tests_two (T, j, a, l) = (inside T, test_halves T j a l)

      pub two_lists : {f g h : List ℕ} {p r : ℕ} → Lists (TestAt s) tests_of (at + 1) k s f g p → Lists (TestAt s) tests_of n p s g h r → Lists (TestAt s) inside at k s f h r
      two_lists u v T j a l = halves_written (TestAt s) tests_of (at + 1) n k (test_halves T j a l) u v

    module _ (comparison : kind ≡ Comparison) {m : Middle} (parted : (T : Test) (j : ℕ) → TestAt s T at j → Parted s T at j m) where
      sides : (T : Test) (j : ℕ) → TestAt s T at j
          → (P : XPath) × PathAt s P (at + 1) m.sign × (m.sign ≤ m.second) × (m.second ≤ length s) × Second s T at j P m.second
      sides T j a = test_of s told T j a 4 (ap test_tag comparison) m (parted T j a)

      pub side_inside : Room (TestAt s) inside at k → m.second ≤ length s
      side_inside (T, j, a, l) = (sides T j a).3

      pub side_room : Room (TestAt s) inside at k → Room (PathAt s) path_tests (at + 1) k
      side_room (T, j, a, l) = let (P, b, e, h, o) = sides T j a in (P, m.sign, b, go P o)
        where
          go : (P : XPath) → Second s T at j P m.second → k + length (path_tests P) ≤ 64
          go P (path R i c e) = let n = ap length e in let z = length-append (path_tests P) (path_tests R) in omega arith
          go P (constant c e) = let n = ap length e in omega arith

      pub constant_lists : {f g : List ℕ} {r : ℕ} → Stands s m.second 34 → Lists (PathAt s) path_tests (at + 1) k s f g r → Lists (TestAt s) inside at k s f g r
      constant_lists {f} {g} {r} q w T j a l = let (P, b, e, h, o) = sides T j a in go P b o
        where
          go : (P : XPath) → PathAt s P (at + 1) m.sign → Second s T at j P m.second → Written s (inside T) k f g r
          go P b (path R i c e) = absurd (quote_stands s q (unquoted s c))
          go P b (constant c e) = subst (λ Ts. Written s Ts k f g r) (sym e) (w P m.sign b (subst (λ Ts. k + length Ts ≤ 64) e l))

      module _ (no-quote : Lacks 34 (drop m.second s)) where
        side_halves : (T : Test) (j : ℕ) → TestAt s T at j → k + length (inside T) ≤ 64 → Halves (PathAt s) path_tests (at + 1) m.second k (inside T)
        side_halves T j a l = let (P, b, e, h, o) = sides T j a in go P b e o
          where
            go : (P : XPath) → PathAt s P (at + 1) m.sign → m.sign ≤ m.second → Second s T at j P m.second → Halves (PathAt s) path_tests (at + 1) m.second k (inside T)
            go P b e (path R i c h) =
                let z = path_long s b in
                record { first = P; second = R; first_end_lem = m.sign; second_end_lem = i; first_at_lem = b; second_at_lem = c; after = omega arith; both = h; room = l }
            go P b e (constant c h) = absurd (quote_stands s c no-quote)

        pub sides_two : Room (TestAt s) inside at k → (Ts : List Test) × Halves (PathAt s) path_tests (at + 1) m.second k Ts
        sides_two (T, j, a, l) = (inside T, side_halves T j a l)

        pub sides_lists : {f g h : List ℕ} {p r : ℕ} → Lists (PathAt s) path_tests (at + 1) k s f g p → Lists (PathAt s) path_tests m.second p s g h r → Lists (TestAt s) inside at k s f h r
        sides_lists u v T j a l = halves_written (PathAt s) path_tests (at + 1) m.second k (side_halves T j a l) u v

    module _ (count : kind ≡ Count) {c : counts.Count} (counted : (n : ℕ) (P : XPath) (j : ℕ) → TestAt s (at_least n P) at j → Counted s n P j c) where
      within : (T : Test) (j : ℕ) → TestAt s T at j → (P : XPath) × PathAt s P c.path j × (at < c.path) × (inside T ≡ path_tests P)
      within T j a = test_of s told T j a 5 (ap test_tag count) c counted

      pub count_behind : Room (TestAt s) inside at k → at < c.path
      count_behind (T, j, a, l) = (within T j a).2

      pub count_room : Room (TestAt s) inside at k → Room (PathAt s) path_tests c.path k
      count_room (T, j, a, l) = let (P, b, e, h) = within T j a in (P, j, b, subst (λ Ts. k + length Ts ≤ 64) h l)

      pub count_lists : {f g : List ℕ} {r : ℕ} → Lists (PathAt s) path_tests c.path k s f g r → Lists (TestAt s) inside at k s f g r
      count_lists {f} {g} {r} w T j a l =
          let (P, b, e, h) = within T j a in
          subst (λ Ts. Written s Ts k f g r) (sym h) (w P j b (subst (λ Ts. k + length Ts ≤ 64) h l))

  module _ {at : ℕ} {kind : PathKind} (told : (P : XPath) (j : ℕ) → PathAt s P at j → kind ≡ path_kind P) (k : ℕ) where
    -- ── The kinds of paths ──
    pub testless_lists : (f : List ℕ) → OneOf (0 ∷ 1 ∷ 2 ∷ 3 ∷ 4 ∷ []) (path_tag kind) → Lists (PathAt s) path_tests at k s f f k
    testless_lists f o P j a l = subst (λ Ts. Written s Ts k f f k) (sym (testless_of s told P j a o)) written_none

    pub bracket_room : kind ≡ Stay → Room (PathAt s) path_tests at k → Room (TestAt s) tests_of (at + 1) k
    bracket_room e (P, j, a, l) = let (T, m, b, z, h) = path_of s told P j a 5 (ap path_tag e) in (T, m, b, subst (λ Ts. k + length Ts ≤ 64) h l)

    pub bracket_lists : {f g : List ℕ} {r : ℕ} → kind ≡ Stay → Lists (TestAt s) tests_of (at + 1) k s f g r → Lists (PathAt s) path_tests at k s f g r
    bracket_lists {f} {g} {r} e w P j a l =
        let (T, m, b, z, h) = path_of s told P j a 5 (ap path_tag e) in
        subst (λ Ts. Written s Ts k f g r) (sym h) (w T m b (subst (λ Ts. k + length Ts ≤ 64) h l))

    pub star_room : kind ≡ Star → Room (PathAt s) path_tests at k → Room (PathAt s) path_tests (at + 1) k
    star_room e (P, j, a, l) = let (A, b, z, h) = path_of s told P j a 8 (ap path_tag e) in (A, j, b, subst (λ Ts. k + length Ts ≤ 64) h l)

    pub star_lists : {f g : List ℕ} {r : ℕ} → kind ≡ Star → Lists (PathAt s) path_tests (at + 1) k s f g r → Lists (PathAt s) path_tests at k s f g r
    star_lists {f} {g} {r} e w P j a l =
        let (A, b, z, h) = path_of s told P j a 8 (ap path_tag e) in
        subst (λ Ts. Written s Ts k f g r) (sym h) (w A j b (subst (λ Ts. k + length Ts ≤ 64) h l))

    module _ (pair : OneOf (6 ∷ 7 ∷ []) (path_tag kind)) {n : ℕ} (skipped : (P : XPath) (j : ℕ) → PathAt s P (at + 1) j → n ≡ j) where
      path_halves : (P : XPath) (j : ℕ) → PathAt s P at j → k + length (path_tests P) ≤ 64 → Halves (PathAt s) path_tests (at + 1) n k (path_tests P)
      path_halves P j a l =
          let (A, B, m, b, c, z, e) = pair_of s told P j a pair in let h = skipped A m b in let z = path_long s b in
          record { first = A; second = B; first_end_lem = m; second_end_lem = j; first_at_lem = b; second_at_lem = subst (λ i. PathAt s B i j) (sym h) c; after = omega arith; both = e; room = l }

      pub paths_two : Room (PathAt s) path_tests at k → (Ts : List Test) × Halves (PathAt s) path_tests (at + 1) n k Ts
      paths_two (P, j, a, l) = (path_tests P, path_halves P j a l)

      pub pair_lists : {f g h : List ℕ} {p r : ℕ} → Lists (PathAt s) path_tests (at + 1) k s f g p → Lists (PathAt s) path_tests n p s g h r → Lists (PathAt s) path_tests at k s f h r
      pair_lists u v P j a l = halves_written (PathAt s) path_tests (at + 1) n k (path_halves P j a l) u v

  -- ── The whole rule ──
  pub rule_room : {T : Test} → Accepts s T → Room (TestAt s) tests_of 0 0
  rule_room {T} a = let n = tests_few a in (T, length s, rule_at s a, omega arith)

  pub rule_listed : {f g : List ℕ} {r : ℕ} → Lists (TestAt s) tests_of 0 0 s f g r → (T : Test) → Accepts s T → Listed s T g r
  rule_listed {g = g} w T a =
      let m = tests_few a in let u = w T (length s) (rule_at s a) (omega arith) in let n = u.next in record {
        all = omega arith;
        stands = λ k l.
            let (j, x) = u.stands k (omega arith) in let z : 0 + k ≡ k = omega arith in
            (j, subst (λ i. TestAt s (test (tests_of T) k) (get_or g i 0) j) z x);
      }
