-- Laws of the rows that become 0.
use Prim.Native.Nat.{ℕ, suc, ◌+◌, ◌*◌, ◌/◌, ◌%◌, ◌≤◌, ◌<◌}
use mathlib.Core.Path.{◌≡◌, sym, ap, ◌∙◌, subst}
use mathlib.Core.Logic.{◌≢◌, ◌⊎◌, inl, inr, ⊎_elim}
use mathlib.Core.List.{List}
use native.Mathlib.Nat.{eq-or-lt_of_le, mul-le-mul_right, div-add-mod', div-lt_iff_lt-mul, mod-lt}
use native.Mathlib.Omega.{arith}
use lib.ListN.{length, get_or, set}
use lib.Seq.{get_or-set_same, get_or-set_other}
use Rattle.layout.proofs.Frames.{frame_none, frame_then, frame_wider, set_frame, same_none, same_then, same_wider}
use Rattle.matrices.proofs.Drawing.{redrawn_same}
use Rattle.layout.specs.Blocks.{Rest, rows_at, Aside}
use Rattle.equalities.specs.Steps.{Zeroed, Cleared, Empty}

-- ── Words from an offset on ──
pub zeroed_none : (at : ℕ) (p : List ℕ) → Zeroed at 0 p p
zeroed_none at p = record { frame = frame_none p; zero = λ i h. absurd (omega arith) }

pub zeroed_step : {at k : ℕ} {p q : List ℕ} → Zeroed at k p q → at + k < length p → Zeroed at (k + 1) p (set q (at + k) 0)
zeroed_step {at} {k} {p} {q} z room = record {
  frame = frame_then (frame_wider (omega arith) (omega arith) z.frame) (frame_wider (omega arith) (omega arith) (set_frame q (at + k) 0));
  zero = λ i h. go i (eq-or-lt_of_le (omega arith));
}
  where
    go : (i : ℕ) → (i ≡ k) ⊎ (i < k) → get_or (set q (at + k) 0) (at + i) 0 ≡ 0
    go i (inl e) = ap (λ (j : ℕ). get_or (set q (at + k) 0) (at + j) 0) e ∙ get_or-set_same q (at + k) 0 0 (omega (arith, z.frame.long))
    go i (inr h) = get_or-set_other q (at + k) (at + i) 0 0 (omega arith) ∙ z.zero i h

pub zeroed_to : {at k m : ℕ} {p q : List ℕ} → k ≡ m → Zeroed at k p q → Zeroed at m p q
zeroed_to {at} {p = p} {q} e z = subst (λ (x : ℕ). Zeroed at x p q) e z

-- ── The rows of the blocks ──
pub cleared_none : (n : ℕ) (p : List ℕ) → Cleared n 0 p p
cleared_none n p = record { same = same_none p; zero = λ l i h. absurd (omega arith) }

pub cleared_step : {n c : ℕ} {p q q' : List ℕ} → Cleared n c p q → Zeroed (rows_at n c) 16 q q' → Cleared n (c + 1) p q'
cleared_step {n} {c} {p} {q} {q'} f z = record {
  same = same_then (same_wider (λ k h l i r. h l i (omega arith)) f.same) (redrawn_same (λ k h i. h c i (omega arith)) z.frame);
  zero = λ l i h r. go l i r (eq-or-lt_of_le (omega arith));
}
  where
    go : (l i : ℕ) → i < 16 → (l ≡ c) ⊎ (l < c) → get_or q' (rows_at n l + i) 0 ≡ 0
    go l i r (inl e) = ap (λ (j : ℕ). get_or q' (rows_at n j + i) 0) e ∙ z.zero i r
    go l i r (inr h) = z.frame.front (rows_at n l + i) (omega arith) ∙ f.zero l i h r

module _ {n b : ℕ} {p p' : List ℕ} (f : Cleared n (b * n) p p') where
  pub cleared_empty : Empty n b p'
  cleared_empty k y i l r s = let h : suc k * n ≤ b * n = mul-le-mul_right n l in f.zero (k * n + y) i (omega arith) s

  -- all else stays
  pub cleared_rest : 0 < n → Rest 16 n b p p'
  cleared_rest some =
      record { same = record { long = f.same.long; same = λ k. ⊎_elim (λ h. f.same.same k (λ l i r s e. omega arith)) (λ (h, aside). f.same.same k (place k aside)) } }
    where
      place : (k : ℕ) → Aside n b k → (l i : ℕ) → l < b * n → i < 16 → k ≢ rows_at n l + i
      place k aside l i r s e =
          let whole : l / n * n + l % n ≡ l = div-add-mod' l n in
          aside (l / n) (l % n) i ((div-lt_iff_lt-mul some).1 r) (mod-lt l some) s (e ∙ ap (λ (z : ℕ). rows_at n z + i) (sym whole))
