-- What reads as a rule and what begins one, told by the machine.
use Prim.Native.Nat.{ℕ, ◌≤◌}
use native.Mathlib.Omega.{arith}
use mathlib.Core.Path.{◌≡◌, sym, ap, ◌∙◌, subst}
use mathlib.Core.Option.{Option, none, some, map-eq-some_iff, some-injective}
use mathlib.Core.List.{List, [], ◌∷◌, ◌++◌, append-nil, append_assoc}
use lib.ListN.{length, take, drop, take-append-drop}
use lib.Seq.{length-take-le, take-take}
use Rattle.lists.specs.Lists.{All}
use Rattle.lists.proofs.Lists.{all_imp}
use Rattle.xpath.specs.Syntax.{Test}
use Rattle.rule_spec.specs.Spelling.{spell_test, LegalTest}
use Rattle.rule_spec.specs.Parts.{parts}
use Rattle.rule_spec.specs.Verdict.{Reads, BeginsAs, Begins}
use Rattle.rule_spec.specs.Machine.{Values, move, rest, State, advance, step, over, read, closing, close, Key}
use Rattle.rule_spec.specs.Readers.{keys}
use Rattle.rule_spec.proofs.Machine.{run, read_inj, read_not_stopped, answer, rule_start}
use Rattle.rule_spec.proofs.Spelled.{Legal, spell, Faithful, faithful, completed, Nothing, left_empty}
use Rattle.rule_spec.proofs.Unique.{answer_test}
use Rattle.rule_spec.proofs.Runs.{run_cons, read_run, grows_run}

-- ── What was read is legal, and w is its beginning ──
abbrev Sound : State Test → List ℕ → Type 0
Sound t w = (v : Values t.stack) → Legal t.stack v → LegalTest (t.result v) × (spell_test (t.result v) ≡ w ++ spell t.stack v)

sound_step : (t : State Test) (b : ℕ) (w : List ℕ) {u : State Test} → step t b ≡ some u → Sound t w → Sound u (w ++ b ∷ [])
sound_step t b w e h =
    let (m, p, q) = (map-eq-some_iff (advance t) (move t.stack b)).0 e in
    subst (λ u. Sound u (w ++ b ∷ [])) q (λ v l.
    let (k, d) = subst (Faithful t.stack b) p (faithful t.stack b) v l in
    let (a, c) = h (m.build v) k in
    (a, c ∙ ap (λ z. w ++ z) d ∙ sym (append_assoc w (b ∷ []) _)))

sound_run : (x : List ℕ) (t : State Test) (w : List ℕ) {u : State Test} → run t x ≡ some u → Sound t w → Sound u (w ++ x)
unfolding over
sound_run [] t w e h = subst (λ z. Sound z (w ++ [])) (some-injective _ _ e) (subst (Sound t) (sym (append-nil w)) h)
sound_run (b ∷ x) t w {u} e h =
    let (z, p, q) = run_cons b x t e in
    subst (Sound u) (append_assoc w (b ∷ []) x) (sound_run x z (w ++ b ∷ []) q (sound_step t b w p h))

pub run_sound : (w : List ℕ) {u : State Test} → run rule_start w ≡ some u → Sound u w
run_sound w e = sound_run w rule_start [] e (λ v l. (l.0, sym (append-nil (spell_test v.0))))

-- ── Reading to the end ──
-- t may be left, with r read
pub record Closed {R : Type 0} (t : State R) (r : R) (ks : List Key) : Type 0 where
  pub values : Values t.stack
  pub legal : Legal t.stack values
  pub empty : spell t.stack values ≡ []
  pub made : t.result values ≡ r
  pub parts : t.seen ≡ ks

closed : {R : Type 0} (t : State R) {r : R} {ks : List Key} → close t ≡ read r ks → Closed t r ks
closed t {r} {ks} e = go (rest t.stack) (left_empty t.stack) e
  where
    go : (x : Option (Values t.stack)) → Nothing t.stack x → closing t x ≡ read r ks → Closed t r ks
    go none n e = absurd (read_not_stopped (sym e))
    go (some v) n e = let (p, q) = read_inj e in record { values = v; legal = n.0; empty = n.1; made = p; parts = q }

pub read_closed : {R : Type 0} (s : State R) (w : List ℕ) {r : R} {ks : List Key} → answer s w ≡ read r ks → (t : State R) × (run s w ≡ some t) × Closed t r ks
unfolding over
read_closed s w e = let (t, p, q) = read_run w [] s (ap (answer s) (append-nil w) ∙ e) in (t, p, closed t q)

module _ (s : List ℕ) where
  pub reads_answer : {T : Test} → Reads s T → answer rule_start s ≡ read T (keys (parts T))
  reads_answer {T} h = ap (answer rule_start) h.spelled ∙ answer_test T h.legal

  pub answer_reads : {T : Test} {ks : List Key} → answer rule_start s ≡ read T ks → Reads s T
  answer_reads e =
      let (t, p, c) = read_closed rule_start s e in
      let (l, d) = run_sound s p c.values c.legal in
      record { legal = subst LegalTest c.made l; spelled = sym (append-nil s) ∙ ap (λ z. s ++ z) (sym c.empty) ∙ sym d ∙ ap spell_test c.made }

  -- ── Beginnings ──
  -- the machine runs through what begins a rule, and the rule's parts are those that it has seen and later ones
  pub record Runs (k : ℕ) (T : Test) : Type 0 where
    pub there : State Test
    pub runs : run rule_start (take k s) ≡ some there
    pub here : there.here ≡ k
    pub more : List Key
    pub all : keys (parts T) ≡ there.seen ++ more
    pub later : All (λ q. k ≤ q.0) more

  pub begins_runs : {k : ℕ} {T : Test} → BeginsAs s k T → Runs k T
  begins_runs {k} {T} h =
      let (t, p, q) = read_run (take k s) h.rest rule_start (ap (answer rule_start) (sym h.spelled) ∙ answer_test T h.legal) in
      let (u, c, z) = read_closed t h.rest q in
      let (g, i) = grows_run h.rest t c in
      let (g', j) = grows_run (take k s) rule_start p in
      let m = length-take-le k s h.inside in
      record {
        there = t;
        runs = p;
        here = omega arith;
        more = g.more;
        all = sym z.parts ∙ g.added;
        later = all_imp _ (λ q. k ≤ q.0) (λ q b. omega arith) g.more g.between;
      }

  -- every run can be completed
  pub run_begins : {k : ℕ} {t : State Test} → k ≤ length s → run rule_start (take k s) ≡ some t → Begins s k
  run_begins {k} {t} h e =
      let (v, l) = completed t.stack in
      let (a, c) = run_sound (take k s) e v l in
      (t.result v, record { inside = h; legal = a; rest = spell t.stack v; spelled = c })

  pub begins_less : {i k : ℕ} {T : Test} → i ≤ k → BeginsAs s k T → BeginsAs s i T
  begins_less {i} {k} h b = record {
    inside = let x = b.inside in omega arith;
    legal = b.legal;
    rest = drop i (take k s) ++ b.rest;
    spelled =
        b.spelled ∙ ap (λ z. z ++ b.rest) (sym (take-append-drop i (take k s)) ∙ ap (λ z. z ++ drop i (take k s)) (take-take i k s h))
        ∙ append_assoc (take i s) _ _;
  }
