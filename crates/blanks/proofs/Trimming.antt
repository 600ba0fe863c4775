-- What `trim` leaves of the bytes of a span is what the trimmed span has.
use Prim.Native.Nat.{ℕ, suc, ◌+◌, ◌-◌, ◌≤◌, ◌<◌}
use mathlib.Core.Path.{◌≡◌, sym, ap, ap₂, ◌∙◌, subst}
use mathlib.Core.Logic.{◌≢◌}
use mathlib.Core.List.{List, [], ◌∷◌, ◌++◌}
use native.Mathlib.Omega.{arith}
use native.Mathlib.Decide.{dec_lt}
use lib.ListN.{length, get_or}
use lib.Seq.{slice, slice_empty, slice-cons, length-slice}
use Rattle.document_lines.specs.declared.entries.Span.{Span}
use Rattle.lists.specs.Blanks.{blank, Blanks, trim_start, trim_end, trim}
use Rattle.lists.proofs.Blanks.{blanks_same, trim_is, trim_blanks, trim_start_first, trim_start_blanks, trim_end_last, trim_end_blanks}
use Rattle.blanks.specs.Trimmed.{between, Trimmed}
use Rattle.blanks.proofs.Slices.{slice_join, slice_one, blanks_join}

-- ── One end ──
module _ (s : List ℕ) (a b : ℕ) (i : a < b) (h : b ≤ length s) where
  -- bytes that begin with no blank
  start_kept : get_or s a 0 ≢ blank → trim_start (slice a b s) ≡ slice a b s
  start_kept n =
      let e = slice-cons a b s 0 i h in
      ap trim_start e ∙ trim_start_first (get_or s a 0) (slice (suc a) b s) n ∙ sym e

  -- bytes that end with no blank
  end_kept : get_or s (b - 1) 0 ≢ blank → trim_end (slice a b s) ≡ slice a b s
  end_kept n =
      let w : b - 1 + 1 ≡ b = omega arith in
      let e = slice_join s a (b - 1) b (omega arith) (omega arith) (omega arith)
      ∙ ap (λ (x : List ℕ). slice a (b - 1) s ++ x) (subst (λ (c : ℕ). slice (b - 1) c s ≡ get_or s (b - 1) 0 ∷ []) w (slice_one s (b - 1) (omega arith))) in
      ap trim_end e ∙ trim_end_last (slice a (b - 1) s) (get_or s (b - 1) 0) n ∙ sym e

-- ── Both ──
module _ (s : List ℕ) (p q : Span) (t : Trimmed s p q) (h : p.to ≤ length s) where
  pub trimmed_none : q.to ≤ q.from → Blanks (between s p)
  trimmed_none n =
      let a = t.starts in let b = t.order in let c = t.ends in
      let e : q.to ≡ q.from = omega arith in
      blanks_join s p.from q.from p.to a (omega arith) (omega arith) t.front (subst (λ (x : ℕ). Blanks (slice x p.to s)) e t.behind)

  pub trimmed_start : q.from < q.to → trim_start (between s p) ≡ slice q.from p.to s
  trimmed_start i =
      let a = t.starts in let c = t.ends in
      ap trim_start (slice_join s p.from q.from p.to a (omega arith) (omega arith))
      ∙ trim_start_blanks (slice p.from q.from s) (slice q.from p.to s) t.front
      ∙ start_kept s q.from p.to (omega arith) h (t.first i)

  -- from any place before the last byte that is no blank
  trimmed_behind : (f : ℕ) → f < q.to → q.from < q.to → trim_end (slice f p.to s) ≡ slice f q.to s
  trimmed_behind f l i =
      let c = t.ends in
      ap trim_end (slice_join s f q.to p.to (omega arith) c (omega arith))
      ∙ trim_end_blanks (slice f q.to s) (slice q.to p.to s) t.behind
      ∙ end_kept s f q.to l (omega arith) (t.last i)

  pub trimmed_end : q.from < q.to → trim_end (between s p) ≡ slice p.from q.to s
  trimmed_end i = let a = t.starts in trimmed_behind p.from (omega arith) i

  pub trimmed_whole : trim (between s p) ≡ between s q
  trimmed_whole = go (dec_lt q.from q.to)
    where
      go : Dec (q.from < q.to) → trim (between s p) ≡ between s q
      go (yes i) = trim_is (between s p) ∙ ap trim_end (trimmed_start i) ∙ trimmed_behind q.from i i
      go (no n) =
          let b = t.order in
          let e : q.from ≡ q.to = omega arith in
          trim_blanks (between s p) (trimmed_none (omega arith)) ∙ sym (subst (λ (x : ℕ). slice q.from x s ≡ []) e (slice_empty q.from s))

  -- the blanks, what the trimmed span has, and blanks
  trimmed_parts : between s p ≡ slice p.from q.from s ++ (between s q ++ slice q.to p.to s)
  trimmed_parts =
      let a = t.starts in let b = t.order in let c = t.ends in
      slice_join s p.from q.from p.to a (omega arith) (omega arith)
      ∙ ap (λ (x : List ℕ). slice p.from q.from s ++ x) (slice_join s q.from q.to p.to b c (omega arith))

-- spans are the same if they are without their blanks, and have as many blanks at each end
pub trimmed_same : (s : List ℕ) (p q p' q' : Span) → Trimmed s p q → Trimmed s p' q' → p.to ≤ length s → p'.to ≤ length s → between s q ≡ between s q'
    → q.from - p.from ≡ q'.from - p'.from → p.to - q.to ≡ p'.to - q'.to → between s p ≡ between s p'
trimmed_same s p q p' q' t u h k e f g =
    trimmed_parts s p q t h
    ∙ ap₂ (λ (x y : List ℕ). x ++ (y ++ slice q.to p.to s)) front e
    ∙ ap (λ (x : List ℕ). slice p'.from q'.from s ++ (between s q' ++ x)) behind
    ∙ sym (trimmed_parts s p' q' u k)
  where
    front : slice p.from q.from s ≡ slice p'.from q'.from s
    front =
        let b = t.order in let c = t.ends in let d = u.order in let r = u.ends in
        blanks_same (slice p.from q.from s) (slice p'.from q'.from s) t.front u.front
        (length-slice p.from q.from s (omega arith) ∙ f ∙ sym (length-slice p'.from q'.from s (omega arith)))

    behind : slice q.to p.to s ≡ slice q'.to p'.to s
    behind =
        blanks_same (slice q.to p.to s) (slice q'.to p'.to s) t.behind u.behind
        (length-slice q.to p.to s h ∙ g ∙ sym (length-slice q'.to p'.to s k))
