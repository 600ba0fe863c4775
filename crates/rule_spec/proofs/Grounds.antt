-- Each ground that judges a rule holds at one place at most, and that place is found.
use Prim.Native.Nat.{ℕ, suc, ◌<◌}
use native.Mathlib.Omega.{arith}
use mathlib.Core.Path.{◌≡◌, refl, sym, ap, ◌∙◌, subst}
use mathlib.Core.Logic.{◌↔◌}
use mathlib.Core.Bool.{Bool, true, false}
use mathlib.Core.Option.{Option, none, some}
use mathlib.Core.List.{List, [], ◌∷◌, ◌++◌, nil≢cons, head-eq_of_cons-eq}
use lib.ListN.{length, take, drop, take-append-drop, length-drop}
use lib.Seq.{length-take-le, drop_at}
use lib.Dec.{eqb, ltb}
use borrow.Author.Tests.{ltb-true, lt-ltb, eqb-true, eq-eqb}
use Rattle.limits.specs.Limits.{rule_nesting, rule_tests, comparison_steps}
use Rattle.lists.specs.Lists.{Occurs}
use Rattle.xpath.specs.Syntax.{Test}
use Rattle.rule_spec.specs.Parts.{Part, Sort, parts, tests}
use Rattle.rule_spec.specs.Verdict.{Heavy, Reads, Begins, Unreadable, IsPart, TooDeep, ManyTests, ManySteps}
use Rattle.rule_spec.specs.Machine.{Answer, read, stopped, Key}
use Rattle.rule_spec.specs.Readers.{key}
use Rattle.rule_spec.proofs.Bytes.{clash}
use Rattle.rule_spec.proofs.Machine.{read_not_stopped, answer, rule_start}
use Rattle.rule_spec.proofs.Unique.{spell_injective}
use Rattle.rule_spec.proofs.Runs.{seen_of, Told, answer_told, answer_seen}
use Rattle.rule_spec.proofs.Begins.{reads_answer, answer_reads}
use Rattle.rule_spec.proofs.Seen.{furthest, furthest_begins, furthest_longest, part_seen, seen_part}
use Rattle.rule_spec.proofs.Least.{Settles, Least, least_of, least_exists, settle}

abbrev is_heavy : Sort → Bool
is_heavy Sort.test = false
is_heavy (Sort.stepped m) = ltb comparison_steps m
is_heavy Sort.path = false

heavy_iff : (x : Sort) → (is_heavy x ≡ true) ↔ ((m : ℕ) × (x ≡ Sort.stepped m) × (comparison_steps < m))
heavy_iff Sort.test = (λ e. clash e, λ h. let e = h.1 in let z : ◌≡◌ {A = ℕ} 0 1 = cc in absurd (omega arith))
heavy_iff (Sort.stepped m) = (λ e. (m, refl, ltb-true comparison_steps m e), λ h. let e = h.1 in let i : m ≡ h.0 = cc in lt-ltb comparison_steps m (let l = h.2 in omega arith))
heavy_iff Sort.path = (λ e. clash e, λ h. let e = h.1 in let z : ◌≡◌ {A = ℕ} 0 1 = cc in absurd (omega arith))

abbrev place : Part → ℕ
place p = p.offset

abbrev pub start : Key → ℕ
start k = k.0

abbrev pub depth : Key → ℕ
depth k = k.1

abbrev pub Deep : Key → Type 0
Deep k = depth k ≡ suc rule_nesting

is_deep : (k : Key) → (eqb (depth k) (suc rule_nesting) ≡ true) ↔ Deep k
is_deep k = (eqb-true _ _, eq-eqb _ _)

abbrev first_of : List Part → Option ℕ
first_of [] = none
first_of (p ∷ ps) = some p.offset

-- ── Where each is, by the answer of the machine ──
unfoldable pub unread_at : Answer Test → Option ℕ
unread_at (read T ks) = none
unread_at (stopped ks o) = some o

unfoldable pub deep_at : Answer Test → Option ℕ
deep_at a = least_of start (λ k. eqb (depth k) (suc rule_nesting)) (seen_of a)

unfoldable pub many_tests_at : Answer Test → Option ℕ
many_tests_at (read T ks) = first_of (drop rule_tests (tests (parts T)))
many_tests_at (stopped ks o) = none

unfoldable pub many_steps_at : Answer Test → Option ℕ
many_steps_at (read T ks) = least_of place (λ p. is_heavy p.sort) (parts T)
many_steps_at (stopped ks o) = none

-- ── It is there and nowhere else ──
module _ (s : List ℕ) where
  pub reads_one : {T U : Test} → Reads s T → Reads s U → T ≡ U
  reads_one r q = spell_injective r.legal q.legal (sym r.spelled ∙ q.spelled)

  -- what an answer of the machine says of the rule
  abbrev pub Known : Answer Test → Type 0
  Known (read T ks) = Reads s T
  Known (stopped ks o) = ((T : Test) → ¬ Reads s T) × (o ≡ (furthest s).here)

  pub known : Known (answer rule_start s)
  known = go (answer rule_start s) refl (answer_told s rule_start)
    where
      go : (a : Answer Test) → answer rule_start s ≡ a → Told (furthest s) a → Known a
      go (read T ks) e h = answer_reads s e
      go (stopped ks o) e h = ((λ T k. read_not_stopped (sym (reads_answer s k) ∙ e)), h.1)

  -- number 6
  pub unread_settles : (a : Answer Test) → Known a → Settles (Unreadable s) (unread_at a)
  unfolding unread_at
  unread_settles (read T ks) k = λ o u. u.unread T k
  unread_settles (stopped ks o) k = (
    record { unread = k.0; begins = subst (Begins s) (sym k.1) (furthest_begins s); longest = λ i b. let l = furthest_longest s i b in let e = k.1 in omega arith },
    λ i u. let p = u.longest _ (furthest_begins s) in let q = furthest_longest s i u.begins in let e = k.1 in omega arith,
  )

  -- number 7
  abbrev LeastDeep : ℕ → Type 0
  LeastDeep = Least start Deep (furthest s).seen

  pub deep_iff : (o : ℕ) → LeastDeep o ↔ TooDeep s o
  deep_iff o = (to, from)
    where
      to : LeastDeep o → TooDeep s o
      to l =
          let (p, i, e) = seen_part s l.one l.among in
          let a = l.here in
          let b = l.fits in
          let c = ap start e in
          let d = ap depth e in
          record { part = p; is_part = i; here = omega arith; deep = omega arith; first = λ q j f. l.first (key q) (part_seen s q j) f }

      from : TooDeep s o → LeastDeep o
      from t = record {
        one = key t.part;
        among = part_seen s t.part t.is_part;
        fits = t.deep;
        here = t.here;
        first =
            λ k i f. let (p, j, e) = seen_part s k i in
            let c = ap start e in
            let d = ap depth e in
            let z = t.first p j (omega arith) in
            omega arith;
      }

  pub deep_settles : Settles (TooDeep s) (deep_at (answer rule_start s))
  unfolding deep_at
  deep_settles =
      settle start Deep _ is_deep (seen_of (answer rule_start s)) (TooDeep s)
      (λ o. subst (λ ks. Least start Deep ks o ↔ TooDeep s o) (sym (answer_seen s rule_start)) (deep_iff o))

  pub deep_exists : (p : Part) → IsPart s p → p.nesting ≡ suc rule_nesting → (o : ℕ) × TooDeep s o
  deep_exists p i e = let (o, l) = least_exists start Deep _ is_deep (furthest s).seen (key p) (part_seen s p i) e in (o, (deep_iff o).0 l)

  -- number 8
  module _ {T : Test} (k : Reads s T) where
    tests_drop : {o : ℕ} (m : ManyTests s o) → drop rule_tests (tests (parts T)) ≡ m.part ∷ m.after
    tests_drop m =
        ap (λ U. drop rule_tests (tests (parts U))) (reads_one k m.reads) ∙ ap (drop rule_tests) m.split
        ∙ drop_at m.before (m.part ∷ m.after) rule_tests m.full

    drop_tests : {p : Part} {ps : List Part} → drop rule_tests (tests (parts T)) ≡ p ∷ ps → ManyTests s p.offset
    drop_tests {p} {ps} e = record {
      rule = T;
      reads = k;
      before = take rule_tests (tests (parts T));
      part = p;
      after = ps;
      split = sym (take-append-drop rule_tests (tests (parts T))) ∙ ap (λ qs. take rule_tests (tests (parts T)) ++ qs) e;
      full = length-take-le rule_tests (tests (parts T)) (let l = length-drop rule_tests (tests (parts T)) in let i = ap length e in omega arith);
      here = refl;
    }

    pub tests_exist : rule_tests < length (tests (parts T)) → (o : ℕ) × ManyTests s o
    tests_exist h = go (drop rule_tests (tests (parts T))) refl
      where
        go : (ps : List Part) → drop rule_tests (tests (parts T)) ≡ ps → (o : ℕ) × ManyTests s o
        go [] e = let l = length-drop rule_tests (tests (parts T)) in let i = ap length e in absurd (omega arith)
        go (p ∷ ps) e = (p.offset, drop_tests e)

    tests_settle : (ps : List Part) → drop rule_tests (tests (parts T)) ≡ ps → Settles (ManyTests s) (first_of ps)
    tests_settle [] e = λ o m. nil≢cons (sym e ∙ tests_drop m)
    tests_settle (p ∷ ps) e = (drop_tests e, λ i m. sym m.here ∙ ap place (sym (head-eq_of_cons-eq (sym e ∙ tests_drop m))))

  pub tests_settles : (a : Answer Test) → Known a → Settles (ManyTests s) (many_tests_at a)
  unfolding many_tests_at
  tests_settles (read T ks) k = tests_settle k _ refl
  tests_settles (stopped ks o) k = λ o m. k.0 _ m.reads

  -- number 9
  steps_iff : {T : Test} → Reads s T → (o : ℕ) → Least place Heavy (parts T) o ↔ ManySteps s o
  steps_iff {T} k o = (
    (λ l. record { rule = T; reads = k; part = l.one; among = l.among; heavy = l.fits; here = l.here; first = l.first }),
    λ m. subst (λ U. Least place Heavy (parts U) o) (reads_one m.reads k)
        (record { one = m.part; among = m.among; fits = m.heavy; here = m.here; first = m.first }),
  )

  pub steps_settles : (a : Answer Test) → Known a → Settles (ManySteps s) (many_steps_at a)
  unfolding many_steps_at
  steps_settles (read T ks) k = settle place Heavy _ (λ p. heavy_iff p.sort) (parts T) (ManySteps s) (steps_iff k)
  steps_settles (stopped ks o) k = λ o m. k.0 _ m.reads

  pub steps_exist : {T : Test} → Reads s T → (p : Part) → Occurs p (parts T) → Heavy p → (o : ℕ) × ManySteps s o
  steps_exist {T} k p a h = let (o, l) = least_exists place Heavy _ (λ q. heavy_iff q.sort) (parts T) p a h in (o, (steps_iff k o).0 l)
