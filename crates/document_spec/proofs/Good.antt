-- The lines that are good so far. A check that goes over the lines keeps Good; the first line that is not good gives the verdict.
use Prim.Native.Nat.{ℕ, suc, ◌+◌, ◌*◌, ◌≤◌, ◌<◌}
use mathlib.Core.Path.{◌≡◌, sym, subst}
use mathlib.Core.Logic.{◌≢◌, ⊎_elim}
use mathlib.Core.List.{List, []}
use native.Mathlib.Omega.{arith}
use native.Mathlib.Decide.{dec_le}
use lib.ListN.{length}
use Rattle.limits.specs.Limits.{document_bytes, document_nodes}
use Rattle.refusals.specs.Refusals.{Refusal, line_form, tree_rule, duplicate_attribute, First}
use Rattle.document_spec.specs.Verdict.{line, CountIs, Malformed, Breaks, Duplicate, DocumentGround}
use Rattle.document_spec.specs.Good.{Good}
use Rattle.document_spec.specs.Fields.{Field, label, line_of, Formed, Ruled}
use Rattle.document_spec.proofs.Reading.{count_one}
use Rattle.document_spec.proofs.Fields.{offset_bounds, same_line, Unformed, count, field, extra, unformed, malformed, unruled}
use Rattle.document_spec.proofs.Duplicates.{duplicate_line}
use Rattle.document_spec.proofs.Grounds.{Bad, form, few, rule, again, Ground, long, bad, ground, bad_within, first_line_lem}

pub good_start : (s : List ℕ) (n : ℕ) → length s ≤ document_bytes → CountIs s n → 0 < n → n ≤ document_nodes → Good s n 1
good_start s n short c p l =
    record {
      short = short;
      count = c;
      some = p;
      few = l;
      within = omega arith;
      lines = λ v f h. let o = offset_bounds f in absurd (omega arith);
      fresh = λ i h d. let (w, e) = duplicate_line d in omega arith;
    }

module _ {s : List ℕ} {n k : ℕ} (g : Good s n k) where
  pub good_as : (i : ℕ) → k ≡ i → Good s n i
  good_as i e = subst (Good s n) e g

  -- ── The next line is good ──
  pub good_on : (v : ℕ) (f : Field) → line_of v f ≡ suc k → v < n → Formed s v f → Ruled s v f → ¬ Duplicate s (line_of v f) → Good s n (line_of v f)
  good_on v f next inside p r q = record {
    short = g.short;
    count = g.count;
    some = g.some;
    few = g.few;
    within = let o = offset_bounds f in omega arith;
    lines = λ w h l. old_or_new w h l (dec_le (line_of w h) k);
    fresh = λ i l. old_or_here i l (dec_le i k);
  }
    where
      old_or_new : (w : ℕ) (h : Field) → line_of w h ≤ line_of v f → Dec (line_of w h ≤ k) → Formed s w h × Ruled s w h
      old_or_new w h l (yes e) = g.lines w h e
      old_or_new w h l (no e) = same_line (λ w h. Formed s w h × Ruled s w h) v w f h (omega arith) (p, r)

      old_or_here : (i : ℕ) → i ≤ line_of v f → Dec (i ≤ k) → ¬ Duplicate s i
      old_or_here i l (yes e) = g.fresh i e
      old_or_here i l (no e) = let z : line_of v f ≡ i = omega arith in subst (λ i. ¬ Duplicate s i) z q

  -- ── The next line is bad ──
  -- a line that is not good is not among the first k
  beyond : (v : ℕ) (f : Field) → ¬ (Formed s v f × Ruled s v f) → k < line_of v f
  beyond v f h = go (dec_le (line_of v f) k)
    where
      go : Dec (line_of v f ≤ k) → k < line_of v f
      go (yes e) = absurd (h (g.lines v f e))
      go (no e) = omega arith

  -- a ground is on a later line
  pub good_later : (i : ℕ) (q : Refusal) → Bad s i q → k < i
  good_later i q (form h) = go i (unformed s i h)
    where
      go : (i : ℕ) → Unformed s i → k < i
      go i (count h) = absurd (h n g.count)
      go i (field m v f c l h) = beyond v f (λ p. h p.0)
      go i (extra m c h) = let e = count_one s m n c g.count in let l = g.within in omega arith
  good_later i q (few m c h) =
      let e = count_one s m n c g.count in
      let p = g.some in
      let l = g.few in
      absurd (⊎_elim (λ (z : m ≡ 0). omega arith) (λ (z : document_nodes < m). omega arith) h)
  good_later i q (rule h) = let u = unruled s i h in subst (λ j. k < j) (sym u.here) (beyond u.node u.field (λ p. u.broken p.1))
  good_later i q (again h) = go (dec_le i k)
    where
      go : Dec (i ≤ k) → k < i
      go (yes e) = absurd (g.fresh i e h)
      go (no e) = omega arith

  -- so a ground on the next line is the first
  pub first_bad : (i : ℕ) → i ≡ suc k → (q : Refusal) → Bad s i q → First (DocumentGround s) q
  first_bad i e q b = first_line_lem s g.short i q b (λ j p c. let l = good_later j p c in omega arith)

  pub first_form : (v : ℕ) (f : Field) → line_of v f ≡ suc k → v < n → ¬ Formed s v f → First (DocumentGround s) (line_form (line_of v f))
  first_form v f e l h = first_bad (line_of v f) e (line_form (line_of v f)) (form (malformed s n v f g.count l h))

  pub first_rule : (v : ℕ) (f : Field) → line_of v f ≡ suc k → Breaks s (line_of v f) → First (DocumentGround s) (tree_rule (line_of v f))
  first_rule v f e h = first_bad (line_of v f) e (tree_rule (line_of v f)) (rule h)

  pub first_duplicate : (v : ℕ) → line_of v label ≡ suc k → Duplicate s (line_of v label) → First (DocumentGround s) (duplicate_attribute (line_of v label))
  first_duplicate v e h = first_bad (line_of v label) e (duplicate_attribute (line_of v label)) (again h)

  pub first_extra : k ≡ 4 * n + 1 → line s (4 * n + 2) ≢ [] → First (DocumentGround s) (line_form (4 * n + 2))
  first_extra e h = first_bad (4 * n + 2) (omega arith) (line_form (4 * n + 2)) (form (Malformed.extra n g.count h))

-- where all lines are good and no byte is behind them, nothing refuses
pub good_whole : {s : List ℕ} {n : ℕ} → Good s n (4 * n + 1) → line s (4 * n + 2) ≡ [] → (q : Refusal) → ¬ DocumentGround s q
good_whole {s} {n} g e q h = go q (ground s q h)
  where
    go : (q : Refusal) → Ground s q → ⊥
    go q (long l) = let b = g.short in omega arith
    go q (bad {i} b) = let l = good_later g i q b in ⊎_elim (λ (m : i ≤ 4 * n + 1). omega arith) (λ h. h e) (bad_within s n g.count i q b)
