-- A test that ends where the text does is read as what it is, with its tests.
use Prim.Native.Nat.{ℕ, ◌-◌, ◌≤◌}
use native.Mathlib.Omega.{arith}
use mathlib.Core.Path.{◌≡◌, sym, ap, ◌∙◌, subst}
use mathlib.Core.List.{List, [], ◌++◌, append_assoc, append-nil}
use lib.ListN.{length, take, drop, length-append, take-append-drop}
use lib.Seq.{length-take-le, take_at, drop_at}
use Rattle.xpath.specs.Syntax.{Test}
use Rattle.rule_spec.specs.Spelling.{spell_test}
use Rattle.rule_spec.specs.Parts.{tests, test_parts}
use Rattle.rule_spec.specs.Machine.{Symbol, test, over, rest}
use Rattle.rule_spec.specs.Readers.{keys, Unnamed, Returns}
use Rattle.rule_spec.proofs.Machine.{read_inj}
use Rattle.tokens.specs.declared.read.Tally.{Tally}
use Rattle.tokens.specs.declared.read.Refusal.{Refusal}
use Rattle.tokens.specs.Tallies.{tally, tallied}
use Rattle.tokens.specs.Readers.{parts_of, Back, RefusedAt}
use Rattle.tokens.proofs.Places.{at_end_lem}
use Rattle.rule_parts.specs.Standing.{Spans, TestAt}
use Rattle.rule_parts.proofs.Tallying.{left_is, count_test}
use Rattle.rule_parts.proofs.Determined.{test_returns, test_ends, test_reads}

-- ── The text up to the end of a part ──
module _ (s : List ℕ) where
  nothing_left : {j : ℕ} → j ≤ length s → drop j (take j s) ≡ []
  nothing_left {j} h = at_end_lem (take j s) (sym (length-take-le j s h))

  spans_alone : {w : List ℕ} {i j : ℕ} → Spans s w i j → Spans (take j s) w i j
  spans_alone {w} {i} {j} h =
      let e = h.ends in let k = h.inside in
      let first = length-take-le i s (omega arith) in
      let n = length-append (take i s) w in
      let whole : s ≡ (take i s ++ w) ++ drop j s = sym (take-append-drop i s) ∙ ap (λ x. take i s ++ x) h.spelled ∙ sym (append_assoc (take i s) w (drop j s)) in
      let upto : take j s ≡ take i s ++ w = ap (take j) whole ∙ take_at (take i s ++ w) (drop j s) j (omega arith) in
      record {
        inside = let l = length-take-le j s k in omega arith;
        ends = e;
        spelled = ap (drop i) upto ∙ drop_at (take i s) w i first ∙ sym (append-nil w) ∙ ap (λ x. w ++ x) (sym (nothing_left k));
      }

  test_alone : {T : Test} {i j : ℕ} → TestAt s T i j → TestAt (take j s) T i j
  test_alone a = record { legal = a.legal; shallow = a.shallow; spans = spans_alone a.spans; apart = subst Unnamed (sym (nothing_left a.spans.inside)) tt }

-- ── At the end of the text the value is told ──
module _ (s : List ℕ) {T : Test} {i j : ℕ} (a : TestAt s T i j) (end : drop j s ≡ []) where
  returns : Returns (test 1) T (keys (test_parts T i 1)) i (drop i s) j (drop j s)
  returns = test_returns s a

  same_value : {k : ℕ} {t : Tally} {m l : ℕ} {u : Tally} (b : Back s (test 1) i k t m l u) → b.value ≡ T
  unfolding over rest
  same_value {m = m} b =
      let e : drop m s ≡ [] = ap (λ o. drop o s) (test_ends s a b) ∙ end in
      let p = (subst (Returns (test 1) T (keys (test_parts T i 1)) i (drop i s) j) end returns).comes [] (λ t. t.0) [] in
      let q = (subst (Returns (test 1) b.value (keys (test_parts b.value i 1)) i (drop i s) m) e b.returns).comes [] (λ t. t.0) [] in
      (read_inj (sym q ∙ p)).0

  -- and the tally that a reader answers with that reads it
  whole : {k : ℕ} {t : Tally} {m l : ℕ} {u : Tally} → Back s (test 1) i k t m l u → u ≡ tallied t (test_parts T i 1)
  whole {t = t} b = b.kept ∙ ap (λ w. tallied t (test_parts w i 1)) (same_value b)

module _ (s : List ℕ) where
  -- of n tests that might begin, those that did
  pub test_count : {T : Test} {i j : ℕ} (a : TestAt s T i j) (n c h : ℕ) {m l : ℕ} {u : Tally} → Back (take j s) (test 1) i 0 (tally n c h) m l u → length (spell_test T) ≤ n
      → n - u.left ≡ length (tests (test_parts T i 1))
  test_count {T} {i} {j} a n c h b l =
      let w = whole (take j s) (test_alone s a) (nothing_left s a.spans.inside) b in
      let e = ap (λ (v : Tally). v.left) w ∙ left_is (test_parts T i 1) (tally n c h) in
      let k = count_test T i 1 in
      omega arith

  pub alone_reads : {T : Test} {i j : ℕ} → TestAt s T i j → (e : Refusal) → ¬ RefusedAt (take j s) e (test 1) i
  alone_reads {j = j} a = test_reads (take j s) (test_alone s a)

  pub left_less : {x : Symbol} {i n c h : ℕ} {j l : ℕ} {u : Tally} → Back s x i 0 (tally n c h) j l u → u.left ≤ n
  left_less {x} {i} {n} {c} {h} b = let e = ap (λ (v : Tally). v.left) b.kept ∙ left_is (parts_of x b.value i) (tally n c h) in omega arith
