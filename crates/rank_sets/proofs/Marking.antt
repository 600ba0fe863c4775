-- The loop that marks.
use Prim.Native.Nat.{ℕ, ◌+◌, ◌≤◌, ◌<◌}
use mathlib.Core.Path.{◌≡◌, refl, sym, ap, ◌∙◌, subst}
use mathlib.Core.Logic.{inl, inr}
use mathlib.Core.List.{List, [], ◌∷◌}
use native.Mathlib.Decide.{ℕ_discrete}
use native.Mathlib.Omega.{arith}
use Rattle.layout.specs.Part.{MARK, SEEN}
use Rattle.layout.specs.Table.{RANK, SmallRanks}
use Rattle.layout.specs.Words.{cell, word, Wrote}
use Rattle.rank_sets.specs.Ends.{Ended, Steady}
use Rattle.rank_sets.specs.Marks.{Clear, MarkedAt, Marked}
use Rattle.rank_sets.proofs.Ended.{ended_same}
use Rattle.rank_sets.proofs.Steady.{steady_none, steady_then, steady_mark, held_word}

-- ── The marks so far ──
-- the marked ranks are those of the nodes below i where the walk ends
pub record Marking (n last i : ℕ) (p₀ p : List ℕ) : Type 0 where
  pub steady : Steady n p₀ p
  pub seen : (w : ℕ) → w < n → word p n SEEN w ≡ word p₀ n SEEN w
  pub sound : (r : ℕ) → r < n → word p n MARK r ≡ 1 → (w : ℕ) × (w < i) × Ended n last p₀ w × (word p₀ n RANK w ≡ r)
  pub complete : (w : ℕ) → w < i → Ended n last p₀ w → word p n MARK (word p₀ n RANK w) ≡ 1

pub marking_none : (n last : ℕ) (p : List ℕ) → Clear n p → Marking n last 0 p p
marking_none n last p z =
    record {
      steady = steady_none n p;
      seen = λ w l. refl;
      sound = λ r l e. absurd (let y = z r l in omega arith);
      complete = λ w l. absurd (omega arith);
    }

-- ── One node more ──
module _ {n last i : ℕ} {p₀ p : List ℕ} (small : SmallRanks n p₀) (b : i < n) (g : Marking n last i p₀ p) where
  -- the rank of i as it was
  rank : word p n RANK i ≡ word p₀ n RANK i
  rank = held_word g.steady.held RANK i (omega arith) (omega arith) b

  marked : {p' : List ℕ} → Ended n last p₀ i → Wrote ((cell n MARK (word p₀ n RANK i), 1) ∷ []) p p' → Marking n last (i + 1) p₀ p'
  marked {p'} e w =
      let s = small i b in
      record {
        steady = steady_then g.steady (steady_mark s w);
        seen = λ u l. w.other (cell n SEEN u) (omega arith, tt) ∙ g.seen u l;
        sound = λ r l m. from r l m (ℕ_discrete r (word p₀ n RANK i));
        complete = λ u l f. to u l f (ℕ_discrete (word p₀ n RANK u) (word p₀ n RANK i)) (ℕ_discrete u i);
      }
    where
      from : (r : ℕ) → r < n → word p' n MARK r ≡ 1 → Dec (r ≡ word p₀ n RANK i) → (u : ℕ) × (u < i + 1) × Ended n last p₀ u × (word p₀ n RANK u ≡ r)
      from r l m (yes q) = (i, (omega arith), e, sym q)
      from r l m (no q) =
          let (u, k, f, d) = g.sound r l (sym (w.other (cell n MARK r) (omega arith, tt)) ∙ m) in
          (u, (omega arith), f, d)

      to : (u : ℕ) → u < i + 1 → Ended n last p₀ u → Dec (word p₀ n RANK u ≡ word p₀ n RANK i) → Dec (u ≡ i) → word p' n MARK (word p₀ n RANK u) ≡ 1
      to u l f (yes q) d = ap (λ (x : ℕ). word p' n MARK x) q ∙ w.here.0
      to u l f (no q) (yes d) = absurd (q (ap (λ (x : ℕ). word p₀ n RANK x) d))
      to u l f (no q) (no d) = w.other (cell n MARK (word p₀ n RANK u)) (omega arith, tt) ∙ g.complete u (omega arith) f

  still : ¬ Ended n last p₀ i → Marking n last (i + 1) p₀ p
  still f =
      record {
        steady = g.steady;
        seen = g.seen;
        sound = λ r l m. let (u, k, e, d) = g.sound r l m in (u, (omega arith), e, d);
        complete = λ u l e. to u l e (ℕ_discrete u i);
      }
    where
      to : (u : ℕ) → u < i + 1 → Ended n last p₀ u → Dec (u ≡ i) → word p n MARK (word p₀ n RANK u) ≡ 1
      to u l e (yes d) = absurd (f (subst (λ x. Ended n last p₀ x) d e))
      to u l e (no d) = g.complete u (omega arith) e

  pub marking_step : {p' : List ℕ} → MarkedAt n last i p p' → Marking n last (i + 1) p₀ p'
  marking_step {p'} (inl (e, w)) = marked (ended_same (sym (g.seen i b)) e) (subst (λ x. Wrote ((cell n MARK x, 1) ∷ []) p p') rank w)
  marking_step (inr (f, q)) = subst (λ l. Marking n last (i + 1) p₀ l) (sym q) (still (λ e. f (ended_same (g.seen i b) e)))

-- ── All nodes ──
pub marking_all : {n last i : ℕ} {p₀ p : List ℕ} → i ≤ n → n ≤ i → Marking n last i p₀ p → Marked n last p₀ p
marking_all a b g =
    record {
      steady = g.steady;
      sound = λ r l m. let (u, k, e, d) = g.sound r l m in (u, (omega arith), e, d);
      complete = λ w l. g.complete w (omega arith);
    }
