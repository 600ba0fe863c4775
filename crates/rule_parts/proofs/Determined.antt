-- A part that stands in the rule is read to its end, since the machine has one way to go.
use Prim.Native.Nat.{ℕ, suc, ◌≤◌}
use native.Mathlib.Omega.{arith}
use mathlib.Core.Path.{◌≡◌, refl, sym, ap, ◌∙◌, subst}
use mathlib.Core.Logic.{inl}
use mathlib.Core.List.{List, [], ◌∷◌, ◌++◌}
use lib.ListN.{length, drop, length-drop}
use borrow.Author.Tests.{eq-eqb}
use Rattle.limits.specs.Limits.{rule_nesting}
use Rattle.lists.specs.Lists.{Occurs}
use Rattle.lists.proofs.Lists.{all_occurs, occurs_left, occurs_right}
use Rattle.xpath.specs.Syntax.{Test, named, XPath}
use Rattle.rule_spec.specs.Parts.{test_parts, path_parts}
use Rattle.rule_spec.specs.Machine.{Symbol, test, path, byte, Stack, Value, Values, Answer, read, stopped, close, over, move, rest, Key}
use Rattle.rule_spec.specs.Readers.{goes, keys, Returns}
use Rattle.rule_spec.proofs.Machine.{read_not_stopped}
use Rattle.rule_spec.proofs.Comes.{comes_as}
use Rattle.rule_spec.proofs.Reading.{take_test, take_path}
use Rattle.rule_spec.proofs.Unique.{pops_unnamed}
use Rattle.rule_spec.proofs.Runs.{seen_of}
use Rattle.rule_spec.proofs.Readers.{answer_grows}
use Rattle.tokens.specs.declared.read.Tally.{Tally}
use Rattle.tokens.specs.declared.read.Refusal.{Refusal}
use Rattle.tokens.specs.declared.read.Refusal.TheVariants.{Stuck, Deep}
use Rattle.tokens.specs.Readers.{Shallow, Back, StuckAt, DeepAt, RefusedAt}
use Rattle.rule_parts.specs.Standing.{TestAt, PathAt}

place_of : Answer Test → ℕ
place_of (read T ks) = 0
place_of (stopped ks o) = o

pub stop_place : {ks ls : List Key} {o p : ℕ} → ◌≡◌ {A = Answer Test} (stopped ks o) (stopped ls p) → o ≡ p
unfolding place_of
stop_place e = ap place_of e

module _ (s : List ℕ) (x : Symbol) {i j : ℕ} {v : Value x} {ks : List Key} (c : Returns x v ks i (drop i s) j (drop j s)) where
  -- whatever is made of the value
  any : (st : Stack) → Values st → Test
  any st t = named []

  on : (st : Stack) → goes {R = Test} close stopped (x ∷ st) (any (x ∷ st)) [] i (drop i s) ≡ goes {R = Test} close stopped st (any st) ks j (drop j s)
  unfolding any
  on st = c.comes st (any (x ∷ st)) []

  -- the machine is not stuck at the end of what it read: at what is left it goes on, if that is due
  pub not_stuck : {m : ℕ} → ¬ StuckAt s m x i
  unfolding any over move rest
  not_stuck {m} h = go (drop j s) (λ st. sym (on st) ∙ h.ends.ends st (any (x ∷ st)) [])
    where
      due : (b : ℕ) (w : List ℕ) → goes {R = Test} close stopped (byte b ∷ []) (any (byte b ∷ [])) ks j (b ∷ w) ≡ goes {R = Test} close stopped [] (any []) ks (suc j) w
      due b w = rw (eq-eqb b b refl) refl

      go : (w : List ℕ) → ((st : Stack) → goes {R = Test} close stopped st (any st) ks j w ≡ stopped h.seen m) → ⊥
      go [] f = read_not_stopped (f [])
      go (b ∷ []) f = read_not_stopped (sym (due b []) ∙ f (byte b ∷ []))
      go (b ∷ d ∷ w) f = let p = stop_place (f []) in let q = stop_place (sym (due b (d ∷ w)) ∙ f (byte b ∷ [])) in omega arith

  saw : (w : List ℕ) → seen_of (goes {R = Test} close stopped [] (any []) ks j w) ≡ ks
  unfolding over move rest
  saw [] = refl
  saw (b ∷ w) = refl

  pub not_deep : {m : ℕ} → Shallow ks → ¬ DeepAt s m x i
  not_deep {m} low h =
      let (t, w, e, d, n) = h.ends.ends [] (any (x ∷ [])) [] in
      let (more, g, l) = answer_grows w t in
      let k : Key = (m, suc rule_nesting) in
      let all : ks ≡ (h.seen ++ k ∷ []) ++ more = sym (saw (drop j s)) ∙ ap seen_of (sym (on []) ∙ e) ∙ g ∙ ap (λ ls. ls ++ more) d in
      let o = subst (Occurs k) (sym all) (occurs_left k (h.seen ++ k ∷ []) more (occurs_right k h.seen (k ∷ []) (inl refl))) in
      let z = (all_occurs _ ks).0 low k o in
      omega arith

  pub not_refused : Shallow ks → (e : Refusal) → ¬ RefusedAt s e x i
  not_refused low (Stuck m) h = not_stuck h
  not_refused low (Deep m) h = not_deep low h

pub same_end : (s : List ℕ) (x : Symbol) {i j j' : ℕ} {v v' : Value x} {ks ks' : List Key} → j ≤ length s → j' ≤ length s
    → Returns x v ks i (drop i s) j (drop j s) → Returns x v' ks' i (drop i s) j' (drop j' s) → j' ≡ j
unfolding any over move rest
same_end s x {i} {j} {j'} {ks = ks} {ks' = ks'} h h' c d = go (drop j s) (drop j' s) refl refl (sym (on s x c []) ∙ on s x d [])
  where
    go : (w w' : List ℕ) → drop j s ≡ w → drop j' s ≡ w' → goes {R = Test} close stopped [] (λ t. named []) ks j w ≡ goes {R = Test} close stopped [] (λ t. named []) ks' j' w' → j' ≡ j
    go [] [] e f q = let a = length-drop j s in let b = length-drop j' s in let l = ap length e in let m = ap length f in omega arith
    go [] (b ∷ w') e f q = absurd (read_not_stopped q)
    go (b ∷ w) [] e f q = absurd (read_not_stopped (sym q))
    go (b ∷ w) (d ∷ w') e f q = sym (stop_place q)

-- ── So a reader of it comes to its end ──
module _ (s : List ℕ) where
  pub test_returns : {T : Test} {i j : ℕ} → TestAt s T i j → Returns (test 1) T (keys (test_parts T i 1)) i (drop i s) j (drop j s)
  test_returns {T} {i} {j} a =
      comes_as close stopped refl (sym a.spans.spelled) (sym a.spans.ends) ((take_test close stopped T 1 a.legal).takes i (drop j s) (pops_unnamed (drop j s) a.apart))

  pub path_returns : {P : XPath} {i j : ℕ} → PathAt s P i j → Returns (path 1) P (keys (path_parts P i 1)) i (drop i s) j (drop j s)
  path_returns {P} {i} {j} a = comes_as close stopped refl (sym a.spans.spelled) (sym a.spans.ends) ((take_path close stopped P 1 a.legal).takes i (drop j s) tt)

  pub test_ends : {T : Test} {i j : ℕ} → TestAt s T i j → {k : ℕ} {t : Tally} {m l : ℕ} {u : Tally} → Back s (test 1) i k t m l u → m ≡ j
  test_ends a b = same_end s (test 1) a.spans.inside b.inside (test_returns a) b.returns

  pub test_reads : {T : Test} {i j : ℕ} → TestAt s T i j → (e : Refusal) → ¬ RefusedAt s e (test 1) i
  test_reads a = not_refused s (test 1) (test_returns a) a.shallow

  pub path_ends : {P : XPath} {i j : ℕ} → PathAt s P i j → {k : ℕ} {t : Tally} {m l : ℕ} {u : Tally} → Back s (path 1) i k t m l u → m ≡ j
  path_ends a b = same_end s (path 1) a.spans.inside b.inside (path_returns a) b.returns

  pub path_reads : {P : XPath} {i j : ℕ} → PathAt s P i j → (e : Refusal) → ¬ RefusedAt s e (path 1) i
  path_reads a = not_refused s (path 1) (path_returns a) a.shallow
