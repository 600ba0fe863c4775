-- Runs of the machine: over a beginning of a text, how far they come, and the parts that they see on the way.
use Prim.Native.Nat.{ℕ, zero, suc, ◌+◌, ◌≤◌, ◌<◌, zero-le, suc-le-suc}
use native.Mathlib.Omega.{arith}
use native.Mathlib.Nat.{le_refl}
use mathlib.Core.Path.{◌≡◌, refl, sym, ap, ◌∙◌, subst}
use mathlib.Core.Option.{Option, none, some, map-eq-some_iff, some-injective, none-ne-some}
use mathlib.Core.List.{List, [], ◌∷◌, ◌++◌, append-nil, append_assoc}
use lib.ListN.{length, take, drop}
use Rattle.lists.specs.Lists.{All}
use Rattle.lists.proofs.Lists.{all_append, all_imp}
use Rattle.rule_spec.specs.Machine.{Values, Move, move, rest, State, state, advance, step, ask, over, Answer, read, stopped, closing, note, Key}
use Rattle.rule_spec.proofs.Machine.{run, read_not_stopped, answer}

-- ── Over a beginning of a text ──
module _ {R : Type 0} where
  pub run_cons : (b : ℕ) (w : List ℕ) (s : State R) {t : State R} → run s (b ∷ w) ≡ some t → (u : State R) × (step s b ≡ some u) × (run u w ≡ some t)
  unfolding over
  run_cons b w s {t} e = go (step s b) refl e
    where
      go : (x : Option (State R)) → step s b ≡ x → ask x (λ u. run u w) none ≡ some t → (u : State R) × (step s b ≡ some u) × (run u w ≡ some t)
      go none p e = absurd (none-ne-some _ e)
      go (some u) p e = (u, p, e)

  -- what is read to the end runs through every beginning
  pub read_run : (u v : List ℕ) (s : State R) {r : R} {ks : List Key} → answer s (u ++ v) ≡ read r ks → (t : State R) × (run s u ≡ some t) × (answer t v ≡ read r ks)
  unfolding over
  read_run [] v s e = (s, refl, e)
  read_run (b ∷ u) v s {r} {ks} e = go (step s b) (λ t. read_run u v t) e
    where
      go : (x : Option (State R)) → ((t : State R) → answer t (u ++ v) ≡ read r ks → (z : State R) × (run t u ≡ some z) × (answer z v ≡ read r ks))
          → ask x (λ t. answer t (u ++ v)) (stopped s.seen s.here) ≡ read r ks → (z : State R) × (ask x (λ t. run t u) none ≡ some z) × (answer z v ≡ read r ks)
      go none h e = absurd (read_not_stopped (sym e))
      go (some t) h e = h t e

  -- ── The parts that a run adds ──
  -- from s to t the machine goes on, and the parts that it adds lie between
  pub record Grows (s t : State R) : Type 0 where
    pub later : s.here ≤ t.here
    pub more : List Key
    pub added : t.seen ≡ s.seen ++ more
    pub between : All (λ k. (s.here ≤ k.0) × (k.0 < t.here)) more

  grows_refl : (s : State R) → Grows s s
  grows_refl s = record { later = le_refl s.here; more = []; added = sym (append-nil s.seen); between = tt }

  grows_trans : {s t u : State R} → Grows s t → Grows t u → Grows s u
  grows_trans {s} {t} {u} g h = record {
    later = omega arith;
    more = g.more ++ h.more;
    added = h.added ∙ ap (λ ks. ks ++ h.more) g.added ∙ append_assoc s.seen g.more h.more;
    between = (all_append _ g.more h.more).1 (all_imp _ _ (λ k p. omega arith) g.more g.between, all_imp _ _ (λ k p. omega arith) h.more h.between);
  }

  grows_advance : (s : State R) (m : Move s.stack) → Grows s (advance s m)
  grows_advance s m = go m.begins
    where
      go : (n : Option ℕ) → Grows s (state m.after (λ v. s.result (m.build v)) (note s.seen s.here n) (suc s.here))
      go none = record { later = omega arith; more = []; added = sym (append-nil s.seen); between = tt }
      go (some n) = record { later = omega arith; more = (s.here, n) ∷ []; added = refl; between = ((le_refl _, le_refl _), tt) }

  grows_step : (s : State R) (b : ℕ) {t : State R} → step s b ≡ some t → Grows s t × (t.here ≡ suc s.here)
  grows_step s b {t} e =
      let (m, p, q) = (map-eq-some_iff (advance s) (move s.stack b)).0 e in
      subst (λ u. Grows s u × (u.here ≡ suc s.here)) q (grows_advance s m, refl)

  pub grows_run : (w : List ℕ) (s : State R) {t : State R} → run s w ≡ some t → Grows s t × (t.here ≡ s.here + length w)
  unfolding over
  grows_run [] s {t} e = subst (λ u. Grows s u × (u.here ≡ s.here + 0)) (some-injective _ _ e) (grows_refl s, omega arith)
  grows_run (b ∷ w) s {t} e =
      let (u, p, q) = run_cons b w s e in
      let (g, i) = grows_step s b p in
      let (h, j) = grows_run w u q in
      (grows_trans g h, omega arith)

  -- ── How far a run comes ──
  -- the last state before the text ends or a byte is refused
  abbrev or_else : Option (State R) → (State R → State R) → State R → State R
  or_else none f s = s
  or_else (some t) f s = f t

  unfoldable pub last : State R → List ℕ → State R
  last s [] = s
  last s (b ∷ w) = or_else (step s b) (λ t. last t w) s

  pub grows_last : (w : List ℕ) (s : State R) → Grows s (last s w)
  unfolding last
  grows_last [] s = grows_refl s
  grows_last (b ∷ w) s = go (step s b) refl (λ t. grows_last w t)
    where
      go : (x : Option (State R)) → step s b ≡ x → ((t : State R) → Grows t (last t w)) → Grows s (or_else x (λ t. last t w) s)
      go none e h = grows_refl s
      go (some t) e h = grows_trans (grows_step s b e).0 (h t)

  -- the machine comes there
  pub last_run : (w : List ℕ) (s : State R) → (k : ℕ) × (k ≤ length w) × (run s (take k w) ≡ some (last s w))
  unfolding last over
  last_run [] s = (0, zero-le, refl)
  last_run (b ∷ w) s = go (step s b) refl (λ t. last_run w t)
    where
      go : (x : Option (State R)) → step s b ≡ x → ((t : State R) → (k : ℕ) × (k ≤ length w) × (run t (take k w) ≡ some (last t w)))
          → (k : ℕ) × (k ≤ suc (length w)) × (run s (take k (b ∷ w)) ≡ some (or_else x (λ t. last t w) s))
      go none e h = (0, zero-le, refl)
      go (some t) e h = let (k, l, r) = h t in (suc k, suc-le-suc l, ap (λ x. ask x (λ t. run t (take k w)) none) e ∙ r)

  -- and not further
  pub last_after : (i : ℕ) (w : List ℕ) (s : State R) {t : State R} → run s (take i w) ≡ some t → last s w ≡ last t (drop i w)
  unfolding last over
  last_after zero w s e = ap (λ t. last t w) (some-injective _ _ e)
  last_after (suc i) [] s e = some-injective _ _ e
  last_after (suc i) (b ∷ w) s {t} e =
      let (u, p, q) = run_cons b (take i w) s e in
      ap (λ x. or_else x (λ t. last t w) s) p ∙ last_after i w u q

  -- ── What an answer tells ──
  -- an answer tells the parts seen, and where the machine stopped
  abbrev pub seen_of : Answer R → List Key
  seen_of (read r ks) = ks
  seen_of (stopped ks o) = ks

  abbrev pub Told : State R → Answer R → Type 0
  Told t (read r ks) = ks ≡ t.seen
  Told t (stopped ks o) = (ks ≡ t.seen) × (o ≡ t.here)

  pub answer_told : (w : List ℕ) (s : State R) → Told (last s w) (answer s w)
  unfolding last over
  answer_told [] s = go (rest s.stack)
    where
      go : (x : Option (Values s.stack)) → Told s (closing s x)
      go none = (refl, refl)
      go (some v) = refl
  answer_told (b ∷ w) s = go (step s b) (λ t. answer_told w t)
    where
      go : (x : Option (State R)) → ((t : State R) → Told (last t w) (answer t w)) → Told (or_else x (λ t. last t w) s) (ask x (λ t. answer t w) (stopped s.seen s.here))
      go none h = (refl, refl)
      go (some t) h = h t

  pub answer_seen : (w : List ℕ) (s : State R) → seen_of (answer s w) ≡ (last s w).seen
  answer_seen w s = go (answer s w) (answer_told w s)
    where
      go : (a : Answer R) → Told (last s w) a → seen_of a ≡ (last s w).seen
      go (read r ks) h = h
      go (stopped ks o) h = h.0
