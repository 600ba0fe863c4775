-- The loops that draw: words written one behind the other.
use Prim.Native.Nat.{ℕ, ◌+◌, ◌*◌, ◌≤◌, ◌<◌}
use mathlib.Core.Path.{◌≡◌, sym, subst}
use mathlib.Core.Logic.{⊎_elim}
use mathlib.Core.List.{List}
use native.Mathlib.Nat.{eq-or-lt_of_le}
use native.Mathlib.Omega.{arith}
use lib.ListN.{length, get_or, set, length-set}
use lib.Seq.{get_or-set_same, get_or-set_other}
use Rattle.layout.specs.Words.{Frame, Within}
use Rattle.layout.proofs.Frames.{frame_none, frame_then, frame_wider, frame_within}

-- of the m words from a on the first i are written, each as F says, and all words around them are as before
pub record Drawn (F : ℕ → ℕ → Type 0) (a m i : ℕ) (t t' : List ℕ) : Type 0 where
  pub inside : i ≤ m
  pub done : (k : ℕ) → k < i → F k (get_or t' (a + k) 0)
  pub frame : Frame a (a + m) t t'

pub drawn_none : (F : ℕ → ℕ → Type 0) (a m : ℕ) (t : List ℕ) → Drawn F a m 0 t t
drawn_none F a m t = record { inside = omega arith; done = λ k h. absurd (omega arith); frame = frame_none t }

pub drawn_step : {F : ℕ → ℕ → Type 0} {a m i : ℕ} {t t' : List ℕ} (x : ℕ) → Drawn F a m i t t' → a + m ≤ length t → i < m → F i x
    → Drawn F a m (i + 1) t (set t' (a + i) x)
drawn_step {F} {a} {m} {i} {t} {t'} x d room l f =
    record {
      inside = omega arith;
      done = λ k h. ⊎_elim (here k) (λ (q : k < i). subst (F k) (sym (get_or-set_other t' (a + i) (a + k) x 0 (omega arith))) (d.done k q)) (eq-or-lt_of_le (omega arith));
      frame = frame_then d.frame
          (record { long = length-set t' (a + i) x; front = λ k h. get_or-set_other t' (a + i) k x 0 (omega arith); behind = λ k h. get_or-set_other t' (a + i) k x 0 (omega arith) });
    }
  where
    here : (k : ℕ) → k ≡ i → F k (get_or (set t' (a + i) x) (a + k) 0)
    here k e =
        subst (λ (j : ℕ). F j (get_or (set t' (a + i) x) (a + j) 0)) (sym e)
        (subst (F i) (sym (get_or-set_same t' (a + i) x 0 (omega (arith, d.frame.long)))) f)

pub drawn_within : {F : ℕ → ℕ → Type 0} {a m i : ℕ} {t t' : List ℕ} (n c d : ℕ) → a ≡ c * n → a + m ≡ d * n → Drawn F a m i t t' → Within n c d t t'
drawn_within n c d b e w = frame_within n c d (frame_wider (omega arith) (omega arith) w.frame)
