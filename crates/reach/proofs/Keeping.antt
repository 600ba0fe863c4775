-- What is written beside the work list leaves it as it was.
use Prim.Native.Nat.{ℕ, suc, ◌*◌, ◌≤◌, ◌<◌}
use mathlib.Core.Path.{◌≡◌, sym, ap, ◌∙◌, subst}
use mathlib.Core.Logic.{◌⊎◌, inl, inr, ⊎_elim, ◌↔◌}
use mathlib.Core.List.{List}
use native.Mathlib.Omega.{arith}
use Rattle.bits.specs.Sets.{bit}
use Rattle.layout.specs.Part.{SEEN, NODES, POSITIONS}
use Rattle.layout.specs.Words.{cell, word, Frame, Same}
use Rattle.layout.proofs.Frames.{frame_same}
use Rattle.reach.specs.Work.{Seen, Has, node_of, Work}
use Rattle.reach.proofs.Totals.{total_same}

-- what is seen and the entries are as they were
pub record Untouched (n : ℕ) (p p' : List ℕ) : Type 0 where
  pub same : Same (λ k. ((SEEN * n ≤ k) × (k < suc SEEN * n)) ⊎ (NODES * n ≤ k)) p p'

-- what may have changed stands before what is seen, or between that and the entries
module _ {n a b : ℕ} {p p' : List ℕ} (f : Frame a b p p') where
  pub untouched_before : b ≤ SEEN * n → Untouched n p p'
  untouched_before r = record { same = frame_same (λ k. ⊎_elim (λ (l, h). inr (omega arith)) (λ l. inr (omega arith))) f }

  pub untouched_beside : suc SEEN * n ≤ a → b ≤ NODES * n → Untouched n p p'
  untouched_beside l r = record { same = frame_same (λ k. ⊎_elim (λ (q, h). inl (omega arith)) (λ q. inr (omega arith))) f }

module _ {n : ℕ} {p p' : List ℕ} (g : Untouched n p p') where
  pub untouched_node : (k : ℕ) → node_of p' n k ≡ node_of p n k
  untouched_node k = g.same.same (cell n NODES k) (inr (omega arith))

  pub untouched_set : (k : ℕ) → word p' n POSITIONS k ≡ word p n POSITIONS k
  untouched_set k = g.same.same (cell n POSITIONS k) (inr (omega arith))

  seen : (u : ℕ) → u < n → word p' n SEEN u ≡ word p n SEEN u
  seen u l = g.same.same (cell n SEEN u) (inl (omega arith, omega arith))

  pub untouched_seen : (u j : ℕ) → u < n → Seen p' n u j ↔ Seen p n u j
  untouched_seen u j l = (λ s. ap (λ (y : ℕ). bit y j) (sym (seen u l)) ∙ s, λ s. ap (λ (y : ℕ). bit y j) (seen u l) ∙ s)

  pub untouched_has : (k j : ℕ) → Has p' n k j ↔ Has p n k j
  untouched_has k j = (λ h. ap (λ (y : ℕ). bit y j) (sym (untouched_set k)) ∙ h, λ h. ap (λ (y : ℕ). bit y j) (untouched_set k) ∙ h)

  pub untouched_work : {len : ℕ} → Work n len p → Work n len p'
  untouched_work w =
      record {
        space = record { some = w.space.some; few = w.space.few; room = let r = w.space.room in let e = g.same.long in omega arith };
        nodes = λ k l. subst (λ (y : ℕ). y < n) (sym (untouched_node k)) (w.nodes k l);
        told = λ k j l h b.
            subst (λ (y : ℕ). Seen p' n y j) (sym (untouched_node k)) ((untouched_seen (node_of p n k) j (w.nodes k l)).1 (w.told k j l h ((untouched_has k j).0 b)));
        listed = λ u j l h s.
            let (k, r, e, b) = w.listed u j l h ((untouched_seen u j l).0 s) in
            (k, r, untouched_node k ∙ e, (untouched_has k j).1 b);
        once = λ k l j h r s e a b. w.once k l j h r s (sym (untouched_node k) ∙ e ∙ untouched_node l) ((untouched_has k j).0 a) ((untouched_has l j).0 b);
        count = let z = w.count in let e = total_same p p' n n (λ v l d. seen v l) n (omega arith) (omega arith) in omega arith;
      }
