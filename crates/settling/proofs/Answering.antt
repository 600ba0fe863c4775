-- The answers, node by node.
use Prim.Native.Nat.{ℕ, ◌+◌, ◌*◌, ◌≤◌, ◌<◌}
use mathlib.Core.Path.{◌≡◌, sym, ap, ◌∙◌, subst}
use mathlib.Core.Logic.{◌⊎◌, inl, inr}
use mathlib.Core.List.{List, [], ◌∷◌}
use native.Mathlib.Nat.{eq-or-lt_of_le}
use native.Mathlib.Omega.{arith}
use lib.ListN.{get_or}
use Rattle.bits.specs.Sets.{bit, one}
use Rattle.layout.specs.Part.{ANSWER, pair_at}
use Rattle.layout.specs.Table.{PARENT}
use Rattle.layout.specs.Words.{cell, word, Wrote}
use Rattle.layout.proofs.Frames.{frame_none, frame_then, frame_wider, wrote_frame}
use Rattle.pairs.specs.Growing.{Ready}
use Rattle.settling.specs.Settled.{Answering}

-- a word that is known as another number
pub wrote_as : {i x y : ℕ} {p q : List ℕ} → x ≡ y → Wrote ((i, x) ∷ []) p q → Wrote ((i, y) ∷ []) p q
wrote_as e w = record { long = w.long; here = (w.here.0 ∙ e, tt); other = λ k n. w.other k (n.0, tt) }

pub answering_none : (second n : ℕ) (p : List ℕ) → Answering second n 0 p p
answering_none second n p = record { kept = frame_none p; done = λ v h. absurd (let f : ⊥ = omega arith in f) }

pub answering_to : {second n k m : ℕ} {p q : List ℕ} → k ≡ m → Answering second n k p q → Answering second n m p q
answering_to {second} {n} {p = p} {q = q} e a = subst (λ (x : ℕ). Answering second n x p q) e a

module _ {second n k : ℕ} {p q : List ℕ} where
  -- the links stand behind the answers
  pub answering_ready : k ≤ n → Ready n p → Answering second n k p q → Ready n q
  answering_ready h r a = record {
    few = r.few;
    room = let e = a.kept.long in omega (arith, r.room);
    parents = λ v i l. subst (λ (u : ℕ). u < v) (sym (a.kept.behind (PARENT * n + v) (omega arith))) (r.parents v i l);
  }

  pub answering_step : {q' : List ℕ} → Ready n p → k < n → Answering second n k p q
      → Wrote ((cell n ANSWER k, one (bit (get_or q (pair_at n k) 0) second)) ∷ []) q q' → Answering second n (k + 1) p q'
  answering_step {q'} ready h a w = record {
    kept = frame_then (frame_wider (omega arith) (omega arith) a.kept) (frame_wider (omega arith) (omega arith) (wrote_frame w));
    done = λ v i. go v (eq-or-lt_of_le (omega arith));
  }
    where
      go : (v : ℕ) → (v ≡ k) ⊎ (v < k) → word q' n ANSWER v ≡ one (bit (get_or p (pair_at n v) 0) second)
      go v (inl e) =
          subst (λ (u : ℕ). word q' n ANSWER u ≡ one (bit (get_or p (pair_at n u) 0) second)) (sym e)
          (w.here.0 ∙ ap (λ (x : ℕ). one (bit x second)) (a.kept.behind (pair_at n k) (omega arith)))
      go v (inr l) = w.other (cell n ANSWER v) (omega arith, tt) ∙ a.done v l
