-- The verdict on a rule from what the reader of its whole test answers: it is the first ground of 01 in the written order, or the rule is accepted.
use Rattle.std.specs.Prelude.{Result, Ok, Err, IsErrAnd}
use Prim.Native.Nat.{ℕ, ◌≤◌, ◌<◌}
use native.Mathlib.Omega.{arith}
use mathlib.Core.Path.{◌≡◌, refl, sym, ap, ◌∙◌, subst}
use mathlib.Core.Logic.{inl, inr, ⊎_elim}
use mathlib.Core.Bool.{Bool, true, false}
use mathlib.Core.Option.{Option, none, some}
use mathlib.Core.List.{List, [], ◌∷◌}
use lib.ListN.{length, drop}
use lib.Seq.{drop-cons}
use lib.Dec.{ltb}
use borrow.Author.Tests.{ltb-true, ltb-false}
use Rattle.limits.specs.Limits.{rule_bytes, rule_tests}
use Rattle.lists.specs.Lists.{Occurs}
use Rattle.lists.proofs.Lists.{all_occurs, all_imp, occurs_right}
use Rattle.refusals.specs.Refusals.{Refusal, rule_length, unreadable, nesting, tests, steps, Earlier, First}
use Rattle.refusals.proofs.Refusals.{earlier_irrefl, stage_later}
use Rattle.xpath.specs.Syntax.{Test}
use Rattle.rule_spec.specs.Parts as Parts
use Rattle.rule_spec.specs.Parts.{Part, parts}
use Rattle.rule_spec.specs.Verdict.{Reads, Unreadable, TooDeep, ManyTests, ManySteps, RuleGround}
use Rattle.rule_spec.specs.Bytes.{choose}
use Rattle.rule_spec.specs.Machine.{test, read, stopped, close, over, move, rest, Key}
use Rattle.rule_spec.specs.Readers.{goes, keys, Returns}
use Rattle.rule_spec.proofs.Machine.{answer, rule_start}
use Rattle.rule_spec.proofs.Runs.{seen_of, answer_seen}
use Rattle.rule_spec.proofs.Seen.{read_part, deep_before}
use Rattle.rule_spec.proofs.Least.{Settles}
use Rattle.rule_spec.proofs.Grounds.{reads_one, deep_iff, many_tests_at, tests_settles, many_steps_at, steps_settles}
use Rattle.rule_spec.proofs.Accepted.{unrefused_accepted}
use Rattle.rule_spec.proofs.Readers.{rule_reads, rule_goes_on, rule_stops, rule_deep}
use Rattle.tokens.specs.declared.read.Tally.{Tally}
use Rattle.tokens.specs.declared.read.Refusal as Read
use Rattle.tokens.specs.declared.read.Refusal.TheVariants.{Stuck, Deep}
use Rattle.rule.specs.declared.Refusal as Rule
use Rattle.rule.specs.declared.Refusal.TheVariants.{Tests, Steps}
use Rattle.tokens.specs.Tallies.{nowhere, untold}
use Rattle.tokens.specs.Readers.{parts_of, Shallow, Back, StuckAt, DeepAt, RefusedAt}
use Rattle.rule.specs.Check.{Judged, judged_by, read_refusal}
use Rattle.tokens.proofs.Places.{at_end_lem}
use Rattle.rule.proofs.Counted.{first_or, crowded_is, test_occurs, Lowest, heavy_lowest}

-- ── Grounds in the written order ──
-- where the first of two is known, both are one
settled_one : (C : ℕ → Type 0) (x : Option ℕ) → Settles C x → (a b : ℕ) → C a → C b → a ≡ b
settled_one C none h a b p q = absurd (h a p)
settled_one C (some o) h a b p q = h.1 a p ∙ sym (h.1 b q)

module _ (s : List ℕ) where
  -- ── The first ground ──
  pub too_long : rule_bytes < length s → First (RuleGround s) rule_length
  too_long h = record { applies = RuleGround.long h; first = earliest }
    where
      earliest : (q : Refusal) → RuleGround s q → ¬ Earlier q rule_length
      earliest q (RuleGround.long g) e = earlier_irrefl rule_length e
      earliest q (RuleGround.unread {k = k} g) e = stage_later (unreadable k) rule_length (omega arith) e
      earliest q (RuleGround.deep {o = o} g) e = stage_later (nesting o) rule_length (omega arith) e
      earliest q (RuleGround.crowded {o = o} g) e = stage_later (tests o) rule_length (omega arith) e
      earliest q (RuleGround.heavy {o = o} g) e = stage_later (steps o) rule_length (omega arith) e

  -- no part is too deep where those that the machine sees are not
  none_deep : (ks : List Key) → seen_of (answer rule_start s) ≡ ks → Shallow ks → (o : ℕ) → ¬ TooDeep s o
  none_deep ks e low o d =
      let l = (deep_iff s o).1 d in
      let i = (all_occurs _ ks).0 low l.one (subst (Occurs l.one) (sym (answer_seen s rule_start) ∙ e) l.among) in
      let f = l.fits in
      omega arith

  module _ (short : length s ≤ rule_bytes) where
    first_unread : {k : ℕ} → Unreadable s k → ((o : ℕ) → ¬ TooDeep s o) → First (RuleGround s) (unreadable k)
    first_unread {k} u n = record { applies = RuleGround.unread u; first = earliest }
      where
        earliest : (q : Refusal) → RuleGround s q → ¬ Earlier q (unreadable k)
        earliest q (RuleGround.long g) e = omega arith
        earliest q (RuleGround.unread {k = m} g) e =
            let a = u.longest m g.begins in let b = g.longest k u.begins in
            let same : m ≡ k = omega arith in
            earlier_irrefl (unreadable k) (subst (λ x. Earlier (unreadable x) (unreadable k)) same e)
        earliest q (RuleGround.deep {o = o} g) e = n o g
        earliest q (RuleGround.crowded {o = o} g) e = stage_later (tests o) (unreadable k) (omega arith) e
        earliest q (RuleGround.heavy {o = o} g) e = stage_later (steps o) (unreadable k) (omega arith) e

    first_deep : {o : ℕ} → TooDeep s o → First (RuleGround s) (nesting o)
    first_deep {o} d = record { applies = RuleGround.deep d; first = earliest }
      where
        earliest : (q : Refusal) → RuleGround s q → ¬ Earlier q (nesting o)
        earliest q (RuleGround.long g) e = omega arith
        earliest q (RuleGround.unread {k = k} g) e = behind e
          where
            behind : ¬ Earlier (unreadable k) (nesting o)
            behind (inl h) = omega arith
            behind (inr (h, inl l)) = let b = deep_before s d g in omega arith
            behind (inr (h, inr l)) = let b = deep_before s d g in let z = l.0 in omega arith
        earliest q (RuleGround.deep {o = p} g) e =
            let a = d.first g.part g.is_part g.deep in let b = g.first d.part d.is_part d.deep in
            let x = d.here in let y = g.here in
            let same : p ≡ o = omega arith in
            earlier_irrefl (nesting o) (subst (λ x. Earlier (nesting x) (nesting o)) same e)
        earliest q (RuleGround.crowded {o = p} g) e = stage_later (tests p) (nesting o) (omega arith) e
        earliest q (RuleGround.heavy {o = p} g) e = stage_later (steps p) (nesting o) (omega arith) e

    -- ── Reading ends on the way ──
    pub stuck_judged : {j : ℕ} → StuckAt s j (test 1) 0 → First (RuleGround s) (unreadable j)
    stuck_judged h = first_unread (rule_stops s h.ends) (none_deep h.seen (ap seen_of (h.ends.ends [] (λ t. t.0) [])) h.shallow)

    pub deep_judged : {j : ℕ} → DeepAt s j (test 1) 0 → First (RuleGround s) (nesting j)
    deep_judged h = first_deep (rule_deep s h.ends (all_imp _ _ (λ k l e. omega arith) h.seen h.shallow))

    pub read_judged : (e : Read.Refusal) (r : Result (Unit {0}) Rule.Refusal) → IsErrAnd r (λ d. d ≡ read_refusal e) → RefusedAt s e (test 1) 0 → Judged s r
    read_judged e (Ok u) q h = absurd q
    read_judged (Stuck j) (Err d) q h = subst (λ d. Judged s (Err d)) (sym q) (stuck_judged h)
    read_judged (Deep j) (Err d) q h = subst (λ d. Judged s (Err d)) (sym q) (deep_judged h)

    -- ── A test is read ──
    module _ {j k : ℕ} {u : Tally} (c : Back s (test 1) 0 0 untold j k u) where
      abbrev rule : Test
      rule = c.value

      seen : seen_of (answer rule_start s) ≡ keys (parts rule)
      unfolding over rest move parts
      seen = ap seen_of (c.returns.comes [] (λ t. t.0) []) ∙ go (drop j s)
        where
          go : (w : List ℕ) → seen_of (goes {R = Test} close stopped [] (λ t. rule) (keys (parts rule)) j w) ≡ keys (parts rule)
          go [] = refl
          go (b ∷ w) = refl

      shallow : (o : ℕ) → ¬ TooDeep s o
      unfolding parts
      shallow = none_deep (keys (parts rule)) seen c.shallow

      pub goes_on_judged : j < length s → First (RuleGround s) (unreadable j)
      goes_on_judged h = first_unread (rule_goes_on s (subst (Returns (test 1) rule (keys (parts_of (test 1) rule 0)) 0 s j) (drop-cons s j 0 h) c.returns)) shallow

      module _ (end : j ≡ length s) where
        reads : Reads s rule
        reads = rule_reads s (subst (Returns (test 1) rule (keys (parts_of (test 1) rule 0)) 0 s j) (at_end_lem s end) c.returns)

        -- ── The tests ──
        places : (p : Part) → Occurs p (parts rule) → p.offset < nowhere
        places p o = let i = (read_part s reads p o).begins.inside in omega arith

        crowded : u.crowded ≡ first_or nowhere (drop rule_tests (Parts.tests (parts rule)))
        unfolding parts
        crowded = ap (λ (v : Tally). v.crowded) c.kept ∙ crowded_is (parts rule) rule_tests nowhere ((all_occurs _ (parts rule)).1 places)

        abbrev first_of : List Part → Option ℕ
        first_of [] = none
        first_of (p ∷ ps) = some p.offset

        -- told by the tally: where the 65th test begins, or that there is none
        abbrev TestsTold : Type 0
        TestsTold = (u.crowded < nowhere → ManyTests s u.crowded) × (nowhere ≤ u.crowded → (o : ℕ) → ¬ ManyTests s o)

        many_place : {o : ℕ} → ManyTests s o → o < nowhere
        many_place m =
            let o = subst (Occurs m.part) (sym m.split) (occurs_right m.part m.before (m.part ∷ m.after) (inl refl)) in
            let i = (read_part s m.reads m.part (test_occurs m.part (parts m.rule) o)).begins.inside in
            let h = m.here in
            omega arith

        tests_told : (ps : List Part) → u.crowded ≡ first_or nowhere ps → Settles (ManyTests s) (first_of ps) → TestsTold
        tests_told [] e h = (λ l. absurd (omega arith), λ l. h)
        tests_told (p ∷ ps) e h = (λ l. subst (ManyTests s) (sym e) h.0, λ l o m. let i = many_place h.0 in omega arith)

        told : TestsTold
        unfolding many_tests_at
        told = tests_told (drop rule_tests (Parts.tests (parts rule))) crowded (tests_settles s (read rule []) reads)

        one_tests : (a b : ℕ) → ManyTests s a → ManyTests s b → a ≡ b
        one_tests = settled_one (ManyTests s) (many_tests_at (read rule [])) (tests_settles s (read rule []) reads)

        -- ── The steps ──
        lowest : Lowest nowhere (parts rule) u.heavy
        unfolding parts
        lowest = subst (λ (v : Tally). Lowest nowhere (parts rule) v.heavy) (sym c.kept) (heavy_lowest (parts rule) untold)

        steps_there : u.heavy < nowhere → ManySteps s u.heavy
        steps_there l = ⊎_elim (λ e. absurd (omega arith)) (λ (p, o, w, e). record { rule = rule; reads = reads; part = p; among = o; heavy = w; here = e; first = lowest.first }) lowest.found

        no_steps : nowhere ≤ u.heavy → (o : ℕ) → ¬ ManySteps s o
        no_steps l o m =
            let a = subst (λ T. Occurs m.part (parts T)) (reads_one s m.reads reads) m.among in
            let i = lowest.first m.part a m.heavy in
            let h = places m.part a in
            omega arith

        one_steps : (a b : ℕ) → ManySteps s a → ManySteps s b → a ≡ b
        one_steps = settled_one (ManySteps s) (many_steps_at (read rule [])) (steps_settles s (read rule []) reads)

        -- ── The verdict ──
        first_tests : {o : ℕ} → ManyTests s o → First (RuleGround s) (tests o)
        first_tests {o} m = record { applies = RuleGround.crowded m; first = earliest }
          where
            earliest : (q : Refusal) → RuleGround s q → ¬ Earlier q (tests o)
            earliest q (RuleGround.long g) e = omega arith
            earliest q (RuleGround.unread g) e = g.unread rule reads
            earliest q (RuleGround.deep {o = p} g) e = shallow p g
            earliest q (RuleGround.crowded {o = p} g) e = earlier_irrefl (tests o) (subst (λ x. Earlier (tests x) (tests o)) (one_tests p o g m) e)
            earliest q (RuleGround.heavy {o = p} g) e = stage_later (steps p) (tests o) (omega arith) e

        first_steps : {o : ℕ} → ManySteps s o → ((p : ℕ) → ¬ ManyTests s p) → First (RuleGround s) (steps o)
        first_steps {o} m n = record { applies = RuleGround.heavy m; first = earliest }
          where
            earliest : (q : Refusal) → RuleGround s q → ¬ Earlier q (steps o)
            earliest q (RuleGround.long g) e = omega arith
            earliest q (RuleGround.unread g) e = g.unread rule reads
            earliest q (RuleGround.deep {o = p} g) e = shallow p g
            earliest q (RuleGround.crowded {o = p} g) e = n p g
            earliest q (RuleGround.heavy {o = p} g) e = earlier_irrefl (steps o) (subst (λ x. Earlier (steps x) (steps o)) (one_steps p o g m) e)

        unrefused : ((p : ℕ) → ¬ ManyTests s p) → ((p : ℕ) → ¬ ManySteps s p) → (q : Refusal) → ¬ RuleGround s q
        unrefused n k q (RuleGround.long g) = omega arith
        unrefused n k q (RuleGround.unread g) = g.unread rule reads
        unrefused n k q (RuleGround.deep {o = p} g) = shallow p g
        unrefused n k q (RuleGround.crowded {o = p} g) = n p g
        unrefused n k q (RuleGround.heavy {o = p} g) = k p g

        pub end_judged : Judged s (judged_by u)
        end_judged = go (ltb u.crowded nowhere) refl (ltb u.heavy nowhere) refl
          where
            go : (x : Bool) → ltb u.crowded nowhere ≡ x → (y : Bool) → ltb u.heavy nowhere ≡ y
                → Judged s (choose x (Err (Tests u.crowded)) (choose y (Err (Steps u.heavy)) (Ok tt)))
            go true e y f = first_tests (told.0 (ltb-true u.crowded nowhere e))
            go false e true f = first_steps (steps_there (ltb-true u.heavy nowhere f)) (told.1 (ltb-false u.crowded nowhere e))
            go false e false f = unrefused_accepted s (unrefused (told.1 (ltb-false u.crowded nowhere e)) (no_steps (ltb-false u.heavy nowhere f)))
