-- The parts of a rule, also of one that does not read, are those that the machine sees before it stops.
use Prim.Native.Nat.{ℕ, suc, ◌≤◌, ◌<◌}
use native.Mathlib.Omega.{arith}
use native.Mathlib.Nat.{le_refl}
use mathlib.Core.Path.{◌≡◌, refl, sym, ap, ◌∙◌, subst}
use mathlib.Core.Logic.{inl, inr, ◌↔◌, ⊎_elim}
use mathlib.Core.Option.{some, some-injective}
use mathlib.Core.List.{List, [], ◌∷◌, map, append-nil}
use lib.ListN.{length, take, drop}
use lib.Seq.{take-length, drop-length, length-take-le}
use Rattle.lists.specs.Lists.{Occurs}
use Rattle.lists.proofs.Lists.{all_occurs, occurs_left, occurs_append, occurs_map}
use Rattle.xpath.specs.Syntax.{Test}
use Rattle.rule_spec.specs.Parts.{Part, parts}
use Rattle.rule_spec.specs.Verdict.{Reads, BeginsAs, Begins, IsPart, TooDeep, Unreadable}
use Rattle.rule_spec.specs.Machine.{State, Key}
use Rattle.rule_spec.specs.Readers.{key, keys}
use Rattle.rule_spec.proofs.Machine.{run, rule_start}
use Rattle.rule_spec.proofs.Runs.{grows_run, last, grows_last, last_run, last_after}
use Rattle.rule_spec.proofs.Begins.{reads_answer, read_closed, begins_runs, run_begins, begins_less}

occurs_unmap : {A B : Type 0} (f : A → B) (b : B) (xs : List A) → Occurs b (map f xs) → (a : A) × Occurs a xs × (b ≡ f a)
occurs_unmap f b [] h = absurd h
occurs_unmap f b (x ∷ xs) (inl e) = (x, inl refl, e)
occurs_unmap f b (x ∷ xs) (inr h) = let (a, o, e) = occurs_unmap f b xs h in (a, inr o, e)

module _ (s : List ℕ) where
  -- the machine where it stops
  abbrev pub furthest : State Test
  furthest = last rule_start s

  came : (k : ℕ) × (k ≤ length s) × (run rule_start (take k s) ≡ some furthest)
  came = last_run s rule_start

  came_here : came.0 ≡ furthest.here
  came_here = let g = (grows_run (take came.0 s) rule_start came.2).1 in let m = length-take-le came.0 s came.1 in omega arith

  pub furthest_begins : Begins s furthest.here
  furthest_begins = subst (Begins s) came_here (run_begins s came.1 came.2)

  pub furthest_longest : (i : ℕ) → Begins s i → i ≤ furthest.here
  furthest_longest i (T, b) =
      let r = begins_runs s b in
      let e = ap (λ (t : State Test). t.here) (last_after i s rule_start r.runs) in
      let l = (grows_last (drop i s) r.there).later in
      let h = r.here in
      omega arith

  -- so the beginnings of rules are told apart by their length
  pub begins_iff : (i : ℕ) → Begins s i ↔ (i ≤ furthest.here)
  begins_iff i = (furthest_longest i, λ h. let (T, b) = furthest_begins in (T, begins_less s h b))

  pub part_seen : (p : Part) → IsPart s p → Occurs (key p) furthest.seen
  part_seen p h =
      let r = begins_runs s h.begins in
      let o = subst (Occurs (key p)) r.all (occurs_map key p (parts h.rule) h.among) in
      let i = ⊎_elim (λ x. x) (λ x. let l = (all_occurs _ r.more).0 r.later (key p) x in absurd (omega arith)) (occurs_append (key p) r.there.seen r.more o) in
      let e = ap (λ (t : State Test). t.seen) (last_after (suc p.offset) s rule_start r.runs) in
      let g = grows_last (drop (suc p.offset) s) r.there in
      subst (Occurs (key p)) (sym (e ∙ g.added)) (occurs_left (key p) r.there.seen g.more i)

  pub seen_part : (k : Key) → Occurs k furthest.seen → (p : Part) × IsPart s p × (k ≡ key p)
  seen_part k o =
      let g = (grows_run (take came.0 s) rule_start came.2).0 in
      let l = (all_occurs _ g.more).0 g.between k (subst (Occurs k) g.added o) in
      let (T, b) = run_begins s came.1 came.2 in
      let r = begins_runs s b in
      let f = some-injective _ _ (sym came.2 ∙ r.runs) in
      let o' = subst (Occurs k) (sym r.all) (occurs_left k r.there.seen r.more (subst (λ (t : State Test). Occurs k t.seen) f o)) in
      let (p, a, e) = occurs_unmap key k (parts T) o' in
      let i : k.0 ≡ p.offset = ap (λ (q : Key). q.0) e in
      let c = came_here in
      (p, record { rule = T; begins = begins_less s (omega arith) b; among = a }, e)

  -- ── In a rule that reads ──
  module _ {T : Test} (h : Reads s T) where
    pub read_seen : (furthest.seen ≡ keys (parts T)) × (furthest.here ≡ length s)
    unfolding last
    read_seen =
        let (t, p, c) = read_closed rule_start s (reads_answer s h) in
        let e : furthest ≡ t = last_after (length s) s rule_start (ap (run rule_start) (take-length s) ∙ p) ∙ ap (last t) (drop-length s) in
        let g = (grows_run s rule_start p).1 in
        let j = ap (λ (u : State Test). u.here) e in
        (ap (λ (u : State Test). u.seen) e ∙ c.parts, omega arith)

    read_begins : BeginsAs s (length s) T
    read_begins = record {
      inside = le_refl (length s);
      legal = h.legal;
      rest = [];
      spelled = sym h.spelled ∙ sym (take-length s) ∙ sym (append-nil (take (length s) s));
    }

    -- its own parts are parts, and a part is one of them in offset and nesting
    pub read_part : (p : Part) → Occurs p (parts T) → IsPart s p
    read_part p o =
        let g = (grows_run (take came.0 s) rule_start came.2).0 in
        let l = (all_occurs _ g.more).0 g.between (key p) (subst (Occurs (key p)) (sym read_seen.0 ∙ g.added) (occurs_map key p (parts T) o)) in
        let j = read_seen.1 in
        record { rule = T; begins = begins_less s (omega arith) read_begins; among = o }

    pub part_read : (p : Part) → IsPart s p → (q : Part) × Occurs q (parts T) × (key p ≡ key q)
    part_read p i = occurs_unmap key (key p) (parts T) (subst (Occurs (key p)) read_seen.0 (part_seen p i))

  -- a part too deep lies before the place where the rule stops to read
  pub deep_before : {o k : ℕ} → TooDeep s o → Unreadable s k → o < k
  deep_before d u = let l = u.longest _ (d.is_part.rule, d.is_part.begins) in let e = d.here in omega arith
