-- Where the inner parts of a test or a path stand.
use Prim.Native.Nat.{ℕ, suc, ◌+◌, ◌≤◌}
use native.Mathlib.Omega.{arith}
use mathlib.Core.Path.{◌≡◌, refl, sym, ap, ◌∙◌, subst}
use mathlib.Core.List.{List, [], ◌∷◌, ◌++◌, map-append, append_assoc, append-nil}
use lib.ListN.{length, drop, length-append}
use lib.Seq.{drop_at, drop-drop, drop-length}
use Rattle.limits.specs.Limits.{rule_count}
use Rattle.lists.specs.Text.{bytes, decimal}
use Rattle.lists.proofs.Lists.{all_append, all_occurs, all_map}
use Rattle.xpath.specs.Syntax.{Op, Test, not, and, or, compare, compare_to, at_least, XPath, empty, one, seq, union, star, to_left, to_right, from_left, from_right, stay}
use Rattle.rule_spec.specs.Spelling.{sign, spell_test, spell_path, spell_step, Constant, LegalTest, LegalPath, LegalStep}
use Rattle.rule_spec.specs.Parts.{Part, parts, test_parts, path_parts, step_parts}
use Rattle.rule_spec.specs.Verdict.{Accepts}
use Rattle.rule_spec.specs.Bytes.{is_name_byte}
use Rattle.rule_spec.specs.Readers.{key, keys, Unnamed}
use Rattle.rule_spec.proofs.Bytes.{nameByte_iff, clash}
use Rattle.rule_spec.proofs.Reading.{test_head}
use Rattle.tokens.specs.Readers.{Shallow, Lacks}
use Rattle.rule_parts.specs.Standing.{Spans, TestAt, PathAt, SignAt}
use Rattle.rule_parts.proofs.Deeper.{test_shallower, path_shallower}

module _ (s : List ℕ) where
  -- the whole rule
  pub rule_at : {T : Test} → Accepts s T → TestAt s T 0 (length s)
  unfolding parts
  rule_at {T} a = record {
    legal = a.reads.legal;
    shallow = all_map _ _ key (λ p l. l) (test_parts T 0 1) ((all_occurs _ (test_parts T 0 1)).1 a.shallow);
    spans = record {
      inside = omega arith;
      ends = let e = ap length a.reads.spelled in omega arith;
      spelled = a.reads.spelled ∙ sym (append-nil (spell_test T)) ∙ ap (λ w. spell_test T ++ w) (sym (drop-length s));
    };
    apart = subst Unnamed (sym (drop-length s)) tt;
  }

  -- ── One behind the other ──
  pub spans_split : (a b : List ℕ) {i j : ℕ} → Spans s (a ++ b) i j → Spans s a i (i + length a) × Spans s b (i + length a) j
  spans_split a b {i} {j} h =
      let whole : drop i s ≡ a ++ (b ++ drop j s) = h.spelled ∙ append_assoc a b (drop j s) in
      let rest : drop (i + length a) s ≡ b ++ drop j s = sym (drop-drop (length a) i s) ∙ ap (drop (length a)) whole ∙ drop_at a (b ++ drop j s) (length a) refl in
      let n = length-append a b in let e = h.ends in let k = h.inside in (
        record { inside = omega arith; ends = refl; spelled = whole ∙ ap (λ w. a ++ w) (sym rest) },
        record { inside = h.inside; ends = omega arith; spelled = rest },
      )

  pub spans_next : (b : ℕ) {w : List ℕ} {i j : ℕ} → Spans s (b ∷ w) i j → Spans s w (i + 1) j
  spans_next b {w} h = (spans_split (b ∷ []) w h).1

  -- no name goes on where a test begins
  unnamed_test : (T : Test) (v : List ℕ) {w : List ℕ} → w ≡ spell_test T ++ v → Unnamed w
  unnamed_test T v e = let (b, u, f, h) = test_head T in subst Unnamed (sym (e ∙ ap (λ x. x ++ v) f)) (λ n. clash (sym h ∙ (nameByte_iff b).1 n))

  shallow_parts : (ps qs : List Part) → Shallow (keys (ps ++ qs)) → Shallow (keys ps) × Shallow (keys qs)
  shallow_parts ps qs h = (all_append _ (keys ps) (keys qs)).0 (subst Shallow (map-append key ps qs) h)

  -- a part one deeper, told at an offset that is the same
  test_moved : (T : Test) {o i : ℕ} → o ≡ i → Shallow (keys (test_parts T o 2)) → Shallow (keys (test_parts T i 1))
  test_moved T {i = i} e h = test_shallower T i 1 (subst (λ o. Shallow (keys (test_parts T o 2))) e h)

  path_moved : (P : XPath) {o i : ℕ} → o ≡ i → Shallow (keys (path_parts P o 2)) → Shallow (keys (path_parts P i 1))
  path_moved P {i = i} e h = path_shallower P i 1 (subst (λ o. Shallow (keys (path_parts P o 2))) e h)

  -- ── Tests ──
  pub not_inner : {T : Test} {i j : ℕ} → TestAt s (not T) i j → TestAt s T (i + 1) j
  unfolding spell_test LegalTest test_parts
  not_inner {T} a = record { legal = a.legal; shallow = test_moved T (omega arith) a.shallow.1; spans = spans_next 33 a.spans; apart = a.apart }

  module _ (T U : Test) {b i j : ℕ} where
    two_tests : LegalTest T → LegalTest U → Shallow (keys (test_parts T (suc i) 2 ++ test_parts U (suc i + length (spell_test T)) 2))
        → Spans s (b ∷ (spell_test T ++ spell_test U)) i j → Unnamed (drop j s) → (m : ℕ) × TestAt s T (i + 1) m × TestAt s U m j
    two_tests l k low h end =
        let (p, q) = spans_split (spell_test T) (spell_test U) (spans_next b h) in
        let (x, y) = shallow_parts (test_parts T (suc i) 2) (test_parts U (suc i + length (spell_test T)) 2) low in (
          i + 1 + length (spell_test T),
          record { legal = l; shallow = test_moved T (omega arith) x; spans = p; apart = unnamed_test U (drop j s) q.spelled },
          record { legal = k; shallow = test_moved U (omega arith) y; spans = q; apart = end },
        )

  pub and_inner : {T U : Test} {i j : ℕ} → TestAt s (and T U) i j → (m : ℕ) × TestAt s T (i + 1) m × TestAt s U m j
  unfolding spell_test LegalTest test_parts
  and_inner {T} {U} a = two_tests T U a.legal.0 a.legal.1 a.shallow.1 a.spans a.apart

  pub or_inner : {T U : Test} {i j : ℕ} → TestAt s (or T U) i j → (m : ℕ) × TestAt s T (i + 1) m × TestAt s U m j
  unfolding spell_test LegalTest test_parts
  or_inner {T} {U} a = two_tests T U a.legal.0 a.legal.1 a.shallow.1 a.spans a.apart

  -- ── Comparisons ──
  -- no operand begins with =
  pub path_no_equal : (P : XPath) (v : List ℕ) → Lacks 61 (spell_path P ++ v)
  unfolding spell_path spell_step
  path_no_equal empty v = λ e. omega arith
  path_no_equal (one to_left) v = λ e. omega arith
  path_no_equal (one to_right) v = λ e. omega arith
  path_no_equal (one from_left) v = λ e. omega arith
  path_no_equal (one from_right) v = λ e. omega arith
  path_no_equal (one (stay T)) v = λ e. omega arith
  path_no_equal (seq P Q) v = λ e. omega arith
  path_no_equal (union P Q) v = λ e. omega arith
  path_no_equal (star P) v = λ e. omega arith

  -- P from i + 1 to m, the sign from m to n, and then Q up to the bracket, or the constant and the bracket
  pub compare_inner : {o : Op} {P Q : XPath} {i j : ℕ} → TestAt s (compare o P Q) i j
      → (m n k : ℕ) × PathAt s P (i + 1) m × SignAt s o m n × PathAt s Q n k × Spans s (bytes ")") k j
  unfolding spell_test LegalTest test_parts
  compare_inner {o} {P} {Q} {i} a =
      let (p, q) = spans_split (spell_path P) (sign o ++ (spell_path Q ++ bytes ")")) (spans_next 40 a.spans) in
      let (r, t) = spans_split (sign o) (spell_path Q ++ bytes ")") q in
      let (u, v) = spans_split (spell_path Q) (bytes ")") t in
      let (x, y) = shallow_parts (path_parts P (suc i) 2) (path_parts Q (suc i + length (spell_path P) + length (sign o)) 2) a.shallow.1 in (
        _,
        _,
        _,
        record { legal = a.legal.0; shallow = path_moved P (omega arith) x; spans = p },
        record { spans = r; apart = subst (Lacks 61) (sym u.spelled) (path_no_equal Q _) },
        record { legal = a.legal.1; shallow = path_moved Q (omega arith) y; spans = u },
        v,
      )

  pub compareTo_inner : {o : Op} {P : XPath} {c : List ℕ} {i j : ℕ} → TestAt s (compare_to o P c) i j
      → (m n : ℕ) × PathAt s P (i + 1) m × SignAt s o m n × Constant c × Spans s (bytes "\"" ++ (c ++ bytes "\")")) n j
  unfolding spell_test LegalTest test_parts
  compareTo_inner {o} {P} {c} a =
      let (p, q) = spans_split (spell_path P) (sign o ++ (bytes "\"" ++ (c ++ bytes "\")"))) (spans_next 40 a.spans) in
      let (r, t) = spans_split (sign o) (bytes "\"" ++ (c ++ bytes "\")")) q in (
        _,
        _,
        record { legal = a.legal.0; shallow = path_moved P (omega arith) a.shallow.1; spans = p },
        record { spans = r; apart = subst (Lacks 61) (sym t.spelled) (λ e. omega arith) },
        a.legal.1,
        t,
      )

  -- ── Counts ──
  -- # at i, n behind it, and then P up to the end
  pub count_inner : {n : ℕ} {P : XPath} {i j : ℕ} → TestAt s (at_least n P) i j
      → (n ≤ rule_count) × Spans s (bytes "#") i (i + 1) × Spans s (decimal n) (i + 1) (i + 1 + length (decimal n)) × PathAt s P (i + 1 + length (decimal n)) j
  unfolding spell_test LegalTest test_parts
  count_inner {n} {P} a =
      let (m, r) = spans_split (bytes "#") (decimal n ++ spell_path P) a.spans in
      let (d, p) = spans_split (decimal n) (spell_path P) r in
      (a.legal.0, m, d, record { legal = a.legal.1; shallow = path_moved P (omega arith) a.shallow.1; spans = p })

  -- ── Paths ──
  pub star_inner : {P : XPath} {i j : ℕ} → PathAt s (star P) i j → PathAt s P (i + 1) j
  unfolding spell_path LegalPath path_parts
  star_inner {P} a = record { legal = a.legal; shallow = path_moved P (omega arith) a.shallow.1; spans = spans_next 42 a.spans }

  module _ (P Q : XPath) {b i j : ℕ} where
    two_paths : LegalPath P → LegalPath Q → Shallow (keys (path_parts P (suc i) 2 ++ path_parts Q (suc i + length (spell_path P)) 2))
        → Spans s (b ∷ (spell_path P ++ spell_path Q)) i j → (m : ℕ) × PathAt s P (i + 1) m × PathAt s Q m j
    two_paths l k low h =
        let (p, q) = spans_split (spell_path P) (spell_path Q) (spans_next b h) in
        let (x, y) = shallow_parts (path_parts P (suc i) 2) (path_parts Q (suc i + length (spell_path P)) 2) low in (
          i + 1 + length (spell_path P),
          record { legal = l; shallow = path_moved P (omega arith) x; spans = p },
          record { legal = k; shallow = path_moved Q (omega arith) y; spans = q },
        )

  pub seq_inner : {P Q : XPath} {i j : ℕ} → PathAt s (seq P Q) i j → (m : ℕ) × PathAt s P (i + 1) m × PathAt s Q m j
  unfolding spell_path LegalPath path_parts
  seq_inner {P} {Q} a = two_paths P Q a.legal.0 a.legal.1 a.shallow.1 a.spans

  pub union_inner : {P Q : XPath} {i j : ℕ} → PathAt s (union P Q) i j → (m : ℕ) × PathAt s P (i + 1) m × PathAt s Q m j
  unfolding spell_path LegalPath path_parts
  union_inner {P} {Q} a = two_paths P Q a.legal.0 a.legal.1 a.shallow.1 a.spans

  pub bracket_inner : {T : Test} {i j : ℕ} → PathAt s (one (stay T)) i j → (k : ℕ) × TestAt s T (i + 1) k × Spans s (bytes "]") k j
  unfolding spell_path spell_step LegalPath LegalStep path_parts step_parts is_name_byte
  bracket_inner {T} {i} a =
      let (p, q) = spans_split (spell_test T) (bytes "]") (spans_next 91 a.spans) in (
        i + 1 + length (spell_test T),
        record {
          legal = a.legal;
          shallow = test_moved T (omega arith) a.shallow.1;
          spans = p;
          apart = subst Unnamed (sym q.spelled) (λ n. clash ((nameByte_iff 93).1 n));
        },
        q,
      )
