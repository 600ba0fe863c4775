-- A matrix that is drawn row by row.
use Prim.Native.Nat.{ℕ, suc, ◌+◌, ◌-◌, ◌≤◌, ◌<◌}
use mathlib.Core.Path.{◌≡◌, sym, ap, ◌∙◌, subst}
use mathlib.Core.Bool.{true}
use mathlib.Core.Logic.{◌≢◌, ◌⊎◌, inl, inr, ◌↔◌}
use mathlib.Core.List.{List}
use native.Mathlib.Decide.{dec_lt}
use native.Mathlib.Nat.{eq-or-lt_of_le}
use native.Mathlib.Omega.{arith}
use lib.ListN.{length, get_or, set}
use lib.Seq.{get_or-set_same}
use Rattle.bits.specs.Sets.{bit}
use Rattle.layout.specs.Words.{Frame, Same}
use Rattle.layout.proofs.Frames.{frame_none, frame_then, frame_wider, set_frame}
use Rattle.matrices.specs.Matrices.{Exactly, Related, Image, Redrawn, Apart, Drawing, Composed}

pub drawing_none : (A : ℕ → ℕ → Type 0) (at : ℕ) (p : List ℕ) → Drawing A at 0 p p
drawing_none A at p = record { frame = frame_none p; done = λ i j h. absurd (let f : ⊥ = omega arith in f) }

module _ {A : ℕ → ℕ → Type 0} {at k : ℕ} {p q : List ℕ} (d : Drawing A at k p q) where
  -- one row more
  pub drawing_more : {q' : List ℕ} → Frame (at + k) (suc (at + k)) q q' → ((j : ℕ) → j < 16 → Related q' at k j ↔ A k j) → Drawing A at (k + 1) p q'
  drawing_more {q'} f row = record {
    frame = frame_then (frame_wider (omega arith) (omega arith) d.frame) (frame_wider (omega arith) (omega arith) f);
    done = λ i j h l. go i j l (eq-or-lt_of_le (omega arith));
  }
    where
      go : (i j : ℕ) → j < 16 → (i ≡ k) ⊎ (i < k) → Related q' at i j ↔ A i j
      go i j l (inl e) = subst (λ (n : ℕ). Related q' at n j ↔ A n j) (sym e) (row j l)
      go i j l (inr h) = subst (λ (y : ℕ). (bit y j ≡ true) ↔ A i j) (sym (f.front (at + i) (omega arith))) (d.done i j h l)

  pub drawing_step : (x : ℕ) → at + k < length p → Exactly x (A k) → Drawing A at (k + 1) p (set q (at + k) x)
  drawing_step x room row =
      drawing_more (set_frame q (at + k) x)
      (λ j l. subst (λ (y : ℕ). (bit y j ≡ true) ↔ A k j) (sym (get_or-set_same q (at + k) x 0 (omega (arith, d.frame.long)))) (row j l))

  -- a row that is not drawn yet
  pub undrawn : (i : ℕ) → k ≤ i → get_or q (at + i) 0 ≡ get_or p (at + i) 0
  undrawn i h = d.frame.behind (at + i) (omega arith)

  -- a word of another matrix
  pub apart_same : (a i : ℕ) → Apart a at → k ≤ 16 → i < 16 → get_or q (a + i) 0 ≡ get_or p (a + i) 0
  apart_same a i (inl f) few h = d.frame.front (a + i) (omega arith)
  apart_same a i (inr b) few h = d.frame.behind (a + i) (omega arith)

-- a word that is none of the matrix
pub redrawn_other : {at : ℕ} {p q : List ℕ} → Redrawn at p q → (l : ℕ) → ((i : ℕ) → i < 16 → l ≢ at + i) → get_or q l 0 ≡ get_or p l 0
redrawn_other {at} {p} {q} f l e = go (dec_lt l at) (dec_lt l (at + 16))
  where
    go : Dec (l < at) → Dec (l < at + 16) → get_or q l 0 ≡ get_or p l 0
    go (yes h) d = f.front l h
    go (no h) (no g) = f.behind l (omega arith)
    go (no h) (yes g) = absurd (e (l - at) (omega arith) (omega arith))

pub redrawn_same : {K : ℕ → Type 0} {at : ℕ} {p q : List ℕ} → ((l : ℕ) → K l → (i : ℕ) → i < 16 → l ≢ at + i) → Redrawn at p q → Same K p q
redrawn_same apart f = record { long = f.long; same = λ l h. redrawn_other f l (apart l h) }

pub drawing_to : {A : ℕ → ℕ → Type 0} {at k m : ℕ} {p q : List ℕ} → k ≡ m → Drawing A at k p q → Drawing A at m p q
drawing_to {A} {at} {k} {m} {p} {q} e d = subst (λ (x : ℕ). Drawing A at x p q) e d

-- ── The next row of a composition ──
module _ {at i : ℕ} {p q : List ℕ} (x : ℕ) where
  -- what its members are related to
  pub compose_step : {a b : ℕ} → Drawing (Composed (Related p a) (Related p b)) at i p q → Apart a at → Apart b at → i < 16 → at + i < length p
      → Exactly x (Image q b (get_or q (a + i) 0)) → Drawing (Composed (Related p a) (Related p b)) at (i + 1) p (set q (at + i) x)
  compose_step {a} {b} d f g few room image = drawing_step d x room (λ j h. (λ e. to j ((image j h).0 e), λ c. (image j h).1 (from j c)))
    where
      first : get_or q (a + i) 0 ≡ get_or p (a + i) 0
      first = apart_same d a i f (omega arith) few

      second : (k : ℕ) → k < 16 → get_or q (b + k) 0 ≡ get_or p (b + k) 0
      second k l = apart_same d b k g (omega arith) l

      to : (j : ℕ) → Image q b (get_or q (a + i) 0) j → Composed (Related p a) (Related p b) i j
      to j (k, l, s, t) = (k, l, ap (λ (w : ℕ). bit w k) (sym first) ∙ s, ap (λ (w : ℕ). bit w j) (sym (second k l)) ∙ t)

      from : (j : ℕ) → Composed (Related p a) (Related p b) i j → Image q b (get_or q (a + i) 0) j
      from j (k, l, s, t) = (k, l, ap (λ (w : ℕ). bit w k) first ∙ s, ap (λ (w : ℕ). bit w j) (second k l) ∙ t)
