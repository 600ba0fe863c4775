-- The loop over the hits, and what it says of a constant.
use Prim.Native.Nat.{ℕ, ◌+◌, ◌≤◌, ◌<◌}
use mathlib.Core.Path.{◌≡◌, refl, sym, ap, ◌∙◌, subst}
use mathlib.Core.Logic.{◌⊎◌, inl, inr, ⊎_elim, ◌↔◌}
use mathlib.Core.List.{List}
use native.Mathlib.Decide.{ℕ_discrete}
use native.Mathlib.Omega.{arith}
use Rattle.layout.specs.Part.{HIT, SEEN, NODES}
use Rattle.layout.specs.Words.{cell, word, Filled}
use Rattle.machine.specs.declared.Machine.{Machine}
use Rattle.machine.specs.Walks.{Stops, Hits}
use Rattle.reach.specs.Work.{Seen, Work, Added}
use Rattle.plain.specs.Plain.{Answered}
use Rattle.plain.proofs.Answering.{answered_from}
use Rattle.retracing.specs.Backward.{LinkedBothWays, Closed, Ends, Backed}
use Rattle.backward.specs.Constants.{IsHit, HitAt}
use Rattle.reach.proofs.Adding.{spared_front, added_same, added_into}
use Rattle.reach.proofs.Clearing.{cleared_unseen}
use Rattle.retracing.proofs.Spreading.{added_linked}
use Rattle.retracing.proofs.Ending.{closed_none, ends_same, ends_closed, ends_as, ends_then}

-- ── One node ──
module _ {m : Machine} {n w len : ℕ} {p : List ℕ} where
  pub hit_taken : {end : ℕ} {q : List ℕ} → w < n → IsHit p n w → Backed m n w m.last len end p q → Added (Ends m n p (HitAt p n w)) n NODES len end p q
  hit_taken l hit g = added_into
      (λ v i r h s. inr (w, l, (refl, hit), s))
      (λ v i r h (x, k, (e, z), s). (g.seen v i r h).1 (inr (subst (λ (y : ℕ). Stops m n p i v y) e s)))
      g

  pub hit_missed : Work n len p → ¬ IsHit p n w → Added (Ends m n p (HitAt p n w)) n NODES len len p p
  hit_missed g f = added_same g (λ v i r h (x, k, (e, z), s). absurd (f z))

-- ── The loop ──
-- w is a hit below k
abbrev HitBelow : List ℕ → ℕ → ℕ → ℕ → Type 0
HitBelow p n k w = (w < k) × IsHit p n w

-- what ends at a hit below w is seen, and no more
pub record Hitting (m : Machine) (n w len : ℕ) (p₀ p : List ℕ) : Type 0 where
  pub linked : LinkedBothWays n p
  pub closed : Closed m n p
  pub added : Added (Ends m n p₀ (HitBelow p₀ n w)) n NODES 0 len p₀ p

pub hitting_none : {m : Machine} {n : ℕ} {p : List ℕ} → Work n 0 p → LinkedBothWays n p → Hitting m n 0 0 p p
hitting_none g linked = record { linked = linked; closed = closed_none g; added = added_same g (λ v i l h (w, r, (k, e), s). absurd (omega arith)) }

pub hitting_step : {m : Machine} {n w len len' : ℕ} {p₀ p p' : List ℕ} → Hitting m n w len p₀ p → w < n → Added (Ends m n p (HitAt p n w)) n NODES len len' p p'
    → Hitting m n (w + 1) len' p₀ p'
hitting_step {m} {n} {w} {p₀ = p₀} {p = p} h l g =
    record {
      linked = added_linked g h.linked;
      closed = ends_closed h.closed g;
      added = ends_as same (ends_then h.added g);
    }
  where
    hit : word p n HIT w ≡ word p₀ n HIT w
    hit = spared_front h.added.spared (cell n HIT w) (omega arith)

    from : (x : ℕ) → HitBelow p₀ n (w + 1) x → Dec (x ≡ w) → HitBelow p₀ n w x ⊎ HitAt p n w x
    from x (r, e) (yes z) = inr (z, hit ∙ ap (λ (y : ℕ). word p₀ n HIT y) (sym z) ∙ e)
    from x (r, e) (no d) = inl (omega arith, e)

    same : (x : ℕ) → x < n → (HitBelow p₀ n w x ⊎ HitAt p n w x) ↔ HitBelow p₀ n (w + 1) x
    same x r = (
      ⊎_elim (λ (k, e). (omega arith, e)) (λ (z, e). (omega arith, ap (λ (y : ℕ). word p₀ n HIT y) z ∙ sym hit ∙ e)),
      λ b. from x b (ℕ_discrete x w),
    )

pub hitting_all : {m : Machine} {n w len : ℕ} {p₀ p : List ℕ} → Hitting m n w len p₀ p → n ≤ w → Added (Ends m n p₀ (IsHit p₀ n)) n NODES 0 len p₀ p
hitting_all h l = ends_as (λ x r. (λ b. b.1, λ e. (omega arith, e))) h.added

-- ── The answers ──
-- p₁ is the part where nothing is seen yet, and p₂ the part where all is seen that ends at a hit
pub hits_answered : {m : Machine} {n len : ℕ} {p p₁ p₂ p₃ : List ℕ} → Filled n SEEN 0 n p p₁ → Added (Ends m n p₁ (IsHit p₁ n)) n NODES 0 len p₁ p₂
    → Answered n (λ v. Seen p₂ n v 0) p₂ p₃ → Answered n (Hits m n p) p p₃
hits_answered {m} {n} {len} {p} {p₁} {p₂} {p₃} f g a =
    answered_from (g.spared.same.long ∙ f.within.long) (λ v l. (λ s. to v l ((g.seen v 0 l (omega arith)).0 s), from v l)) a
  where
    hit : (w : ℕ) → w < n → word p₁ n HIT w ≡ word p n HIT w
    hit w l = f.within.front (cell n HIT w) (omega arith)

    to : (v : ℕ) → v < n → Seen p₁ n v 0 ⊎ Ends m n p₁ (IsHit p₁ n) v 0 → Hits m n p v
    to v l (inl s) = absurd (cleared_unseen n p₁ f.filled v 0 l s)
    to v l (inr s) =
        let (w, r, e, t) = ends_same {p = p₁} {q = p} (λ k h q. sym (f.within.front k (omega arith))) {F = IsHit p n} (λ w r e. sym (hit w r) ∙ e) l s in
        (w, r, t, e)

    from : (v : ℕ) → v < n → Hits m n p v → Seen p₂ n v 0
    from v l (w, r, t, e) =
        (g.seen v 0 l (omega arith)).1 (inr (ends_same {p = p} {q = p₁} (λ k h q. f.within.front k (omega arith)) {E = IsHit p n} {F = IsHit p₁ n} (λ w r e. hit w r ∙ e) l (w, r, e, t)))
