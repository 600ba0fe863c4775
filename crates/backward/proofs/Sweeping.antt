-- The loop over the ranks: what is new from the nodes of a rank ends at no node that was taken before.
use Prim.Native.Nat.{ℕ, ◌+◌, ◌<◌}
use mathlib.Core.Path.{◌≡◌, sym, ◌∙◌, subst}
use mathlib.Core.Logic.{◌⊎◌, inl, inr, ⊎_elim, ◌↔◌}
use mathlib.Core.List.{List}
use native.Mathlib.Omega.{arith}
use Rattle.layout.specs.Table.{RANK}
use Rattle.layout.specs.Words.{word}
use Rattle.machine.specs.declared.Machine.{Machine}
use Rattle.machine.specs.Walks.{Stops}
use Rattle.reach.specs.Work.{Seen, Work, Added}
use Rattle.reach.proofs.Adding.{spared_front, added_same}
use Rattle.reach.proofs.Clearing.{unseen}
use Rattle.reach.proofs.Walks.{walk_same}
use Rattle.retracing.specs.Backward.{LinkedBothWays, New, Closed, Ends}
use Rattle.retracing.specs.Notes.{Noted, Seeded}
use Rattle.backward.specs.Sweeps.{Extreme, Blank, StopsRanked, Swept}
use Rattle.retracing.proofs.Spreading.{added_linked}
use Rattle.retracing.proofs.Ending.{closed_none, ends_closed, ends_as, ends_then}

-- ── One start at one node ──
module _ {m : Machine} {n d a b : ℕ} {D E : ℕ → Type 0} {p₀ p p' : List ℕ} (Order : ℕ → ℕ → Type 0) (blank : ℕ) (key : ℕ → ℕ) (empty : Work n 0 p₀)
    (f : Added (Ends m n p₀ D) n d 0 a p₀ p) (g : Added (Ends m n p E) n d a b p p') (i : ℕ) (small : i < 16) (x : ℕ)
    (keyed : (w : ℕ) → w < n → E w → key w ≡ x) (same : Order x x) (ordered : (w u : ℕ) → w < n → u < n → D w → E u → Order (key w) (key u)) where
  -- where a path from v ends, by the words at the start
  back : {v w : ℕ} → v < n → Stops m n p i v w → Stops m n p₀ i v w
  back l (j, e, s) = (j, e, walk_same (λ k r h. sym (spared_front f.spared k (omega arith))) l s)

  forth : {v w : ℕ} → v < n → Stops m n p₀ i v w → Stops m n p i v w
  forth l (j, e, s) = (j, e, walk_same (λ k r h. spared_front f.spared k (omega arith)) l s)

  -- it was seen before
  was : {v w : ℕ} → v < n → w < n → D w → Stops m n p₀ i v w → Seen p n v i
  was {v} {w} l r d s = (f.seen v i l small).1 (inr (w, r, d, s))

  -- it is seen now
  is_now : {v w : ℕ} → v < n → w < n → E w → Stops m n p₀ i v w → Seen p' n v i
  is_now {v} {w} l r e s = (g.seen v i l small).1 (inr (w, r, e, forth l s))

  From : ℕ → ℕ → Type 0
  From v w = D w × Stops m n p₀ i v w

  Now : ℕ → ℕ → Type 0
  Now v w = (D w ⊎ E w) × Stops m n p₀ i v w

  taken : (v y : ℕ) → v < n → y ≡ x → New n i p p' v → Extreme Order blank n key (Now v) y
  unfolding Now
  taken v y l e (s, d) = go ((g.seen v i l small).0 s)
    where
      first : (w : ℕ) → w < n → (D w ⊎ E w) × Stops m n p₀ i v w → Order y (key w)
      first w r (inl k, t) = absurd (d (was l r k t))
      first w r (inr k, t) = subst (λ z. Order z (key w)) (sym e) (subst (λ z. Order x z) (sym (keyed w r k)) same)

      go : Seen p n v i ⊎ Ends m n p E v i → Extreme Order blank n key (λ w. (D w ⊎ E w) × Stops m n p₀ i v w) y
      go (inl t) = absurd (d t)
      go (inr (w, r, k, t)) = inr ((w, r, (inr k, back l t), keyed w r k ∙ sym e), first)

  left : (v y : ℕ) → v < n → ¬ New n i p p' v → Extreme Order blank n key (From v) y → Extreme Order blank n key (Now v) y
  unfolding From Now
  left v y l old (inl (e, none)) = inl (e, now)
    where
      now : (w : ℕ) → w < n → ¬ ((D w ⊎ E w) × Stops m n p₀ i v w)
      now w r (inl k, t) = none w r (k, t)
      now w r (inr k, t) = old (is_now l r k t, λ s. ⊎_elim (λ z. absurd (unseen empty v i l small z)) (λ (u, h, d, z). none u h (d, z)) ((f.seen v i l small).0 s))
  left v y l old (inr ((w, r, (k, t), e), first)) = inr ((w, r, (inl k, t), e), now)
    where
      now : (u : ℕ) → u < n → (D u ⊎ E u) × Stops m n p₀ i v u → Order y (key u)
      now u h (inl z, s) = first u h (z, s)
      now u h (inr z, s) = subst (λ o. Order o (key u)) e (ordered w u r h k z)

  extreme_step : (c : ℕ) → Noted n c x (New n i p p') p p' → ((v : ℕ) → v < n → Extreme Order blank n key (λ w. D w × Stops m n p₀ i v w) (word p n c v))
      → (v : ℕ) → v < n → Extreme Order blank n key (λ w. (D w ⊎ E w) × Stops m n p₀ i v w) (word p' n c v)
  unfolding From Now
  extreme_step c noted was v l = ⊎_elim
      (λ (d, e). taken v (word p' n c v) l e d)
      (λ (d, e). subst (λ y. Extreme Order blank n key (λ w. (D w ⊎ E w) × Stops m n p₀ i v w) y) (sym e) (left v (word p n c v) l d (was v l)))
      (noted.node v l)

-- the same nodes, said otherwise
pub extreme_as : (Order : ℕ → ℕ → Type 0) (blank n : ℕ) (key : ℕ → ℕ) {D E : ℕ → Type 0} (x : ℕ) → ((w : ℕ) → w < n → D w ↔ E w)
    → Extreme Order blank n key D x → Extreme Order blank n key E x
extreme_as Order blank n key x same (inl (e, none)) = inl (e, λ w l k. none w l ((same w l).1 k))
extreme_as Order blank n key x same (inr ((w, l, d, e), first)) = inr ((w, l, (same w l).0 d, e), λ u h k. first u h ((same u h).1 k))

-- ── The loop ──
-- the nodes that D holds of are done
pub record Sweeping (Order : ℕ → ℕ → Type 0) (blank : ℕ) (key : ℕ → ℕ) (m : Machine) (n c : ℕ) (D : ℕ → Type 0) (len : ℕ) (p₀ p : List ℕ) : Type 0 where
  pub linked : LinkedBothWays n p
  pub closed : Closed m n p
  pub added : Added (Ends m n p₀ D) n c 0 len p₀ p
  pub first : (v : ℕ) → v < n → Extreme Order blank n key (λ w. D w × Stops m n p₀ 0 v w) (word p n c v)
  pub second : (v : ℕ) → v < n → Extreme Order blank n key (λ w. D w × Stops m n p₀ m.second v w) (word p n (c + 1) v)

module _ {Order : ℕ → ℕ → Type 0} {blank : ℕ} {key : ℕ → ℕ} {m : Machine} {n c : ℕ} {D : ℕ → Type 0} where
  pub sweeping_none : {p : List ℕ} → Blank n c blank p → LinkedBothWays n p → ((w : ℕ) → w < n → ¬ D w) → Sweeping Order blank key m n c D 0 p p
  sweeping_none b linked none =
      record {
        linked = linked;
        closed = closed_none b.work;
        added = added_same b.work (λ v i l h (w, r, d, s). absurd (none w r d));
        first = λ v l. inl (b.first v l, λ w r (d, s). none w r d);
        second = λ v l. inl (b.second v l, λ w r (d, s). none w r d);
      }

  pub sweeping_step : {E F : ℕ → Type 0} {x len len' : ℕ} {p₀ p p' : List ℕ} → m.second < 16 → Work n 0 p₀ → Sweeping Order blank key m n c D len p₀ p → Seeded m n E c x len len' p p'
      → ((w : ℕ) → w < n → E w → key w ≡ x) → Order x x → ((w u : ℕ) → w < n → u < n → D w → E u → Order (key w) (key u)) → ((w : ℕ) → w < n → (D w ⊎ E w) ↔ F w)
      → Sweeping Order blank key m n c F len' p₀ p'
  sweeping_step {E} {F} {x} {p₀ = p₀} {p = p} {p' = p'} small empty s g keyed same ordered both =
      record {
        linked = added_linked g.added s.linked;
        closed = ends_closed s.closed g.added;
        added = ends_as both (ends_then s.added g.added);
        first = λ v l. extreme_as Order blank n key (word p' n c v) (also v 0) (extreme_step Order blank key empty s.added g.added 0 (omega arith) x keyed same ordered c g.first s.first v l);
        second = λ v l. extreme_as Order blank n key (word p' n (c + 1) v) (also v m.second) (extreme_step Order blank key empty s.added g.added m.second small x keyed same ordered (c + 1) g.second s.second v l);
      }
    where
      also : (v i w : ℕ) → w < n → ((D w ⊎ E w) × Stops m n p₀ i v w) ↔ (F w × Stops m n p₀ i v w)
      also v i w r = (λ (d, t). ((both w r).0 d, t), λ (d, t). ((both w r).1 d, t))

  -- all nodes that have a rank are done
  pub sweeping_all : {len : ℕ} {p₀ p : List ℕ} → Sweeping Order blank key m n c D len p₀ p → ((w : ℕ) → w < n → D w ↔ (word p₀ n RANK w < n)) → Swept Order blank key m n c p₀ p
  sweeping_all {p₀ = p₀} {p = p} s all =
      record {
        spared = s.added.spared;
        first = λ v l. extreme_as Order blank n key (word p n c v) (also v 0) (s.first v l);
        second = λ v l. extreme_as Order blank n key (word p n (c + 1) v) (also v m.second) (s.second v l);
      }
    where
      also : (v i w : ℕ) → w < n → (D w × Stops m n p₀ i v w) ↔ StopsRanked m n p₀ i v w
      also v i w r = (λ (d, t). (t, (all w r).0 d), λ (t, k). ((all w r).1 k, t))
