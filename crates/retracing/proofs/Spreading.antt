-- The loop over the new entries: what is seen walks to the seeds or was seen before, and behind the entries that are done nothing is missed.
use Prim.Native.Nat.{ℕ, ◌+◌, ◌≤◌, ◌<◌}
use mathlib.Core.Path.{◌≡◌, refl, sym, ap, ◌∙◌, subst}
use mathlib.Core.Bool.{true}
use mathlib.Core.Logic.{◌⊎◌, inl, inr, ⊎_elim, ⊎_map}
use mathlib.Core.List.{List}
use native.Mathlib.Decide.{ℕ_discrete}
use native.Mathlib.Omega.{arith}
use lib.ListN.{get_or}
use Rattle.bits.specs.Sets.{bit}
use Rattle.layout.specs.Part.{NODES}
use Rattle.machine.specs.declared.Machine.{Machine}
use Rattle.machine.specs.Walks.{Leads, Walk, here, on}
use Rattle.machine.proofs.Walking.{walk_inside}
use Rattle.reach.specs.Work.{Seen, node_of, Work, Added, At}
use Rattle.reach.proofs.Adding.{spared_front, added_same, added_then, added_into}
use Rattle.reach.proofs.Walks.{leads_same, walk_same}
use Rattle.retracing.specs.Backward.{LinkedBothWays, Before, Closed, Towards, Backed}
use Rattle.retracing.proofs.Linked.{linked_same}

-- ── What an addition leaves ──
module _ {R : ℕ → ℕ → Type 0} {n d a b : ℕ} {p q : List ℕ} (g : Added R n d a b p q) where
  pub added_linked : LinkedBothWays n p → LinkedBothWays n q
  added_linked = linked_same (λ k l h. spared_front g.spared k (omega arith))

  module _ {m : Machine} where
    leads_before : {v j u : ℕ} → v < n → Leads m n q v j u → Leads m n p v j u
    leads_before = leads_same (λ k l h. sym (spared_front g.spared k (omega arith)))

    leads_after : {v j u : ℕ} → v < n → Leads m n p v j u → Leads m n q v j u
    leads_after = leads_same (λ k l h. spared_front g.spared k (omega arith))

    -- what comes to an entry that was there
    before_old : (k v i : ℕ) → k < a → v < n → Before m n q k v i → Before m n p k v i
    before_old k v i l r (j, h, s, e, t) =
        (j, h, ap (λ (x : ℕ). bit x j) (sym (g.sets k l)) ∙ s, e, leads_before r (subst (λ (x : ℕ). Leads m n q v j x) (g.nodes k l) t))

-- ── The loop ──
-- the first h of the end entries are done; p₁ is the part with the seeds, whose list had a entries
pub record Backing (m : Machine) (n w set a h end : ℕ) (p₁ p : List ℕ) : Type 0 where
  pub linked : LinkedBothWays n p
  pub inside : h ≤ end
  pub grown : Added (Seen p n) n NODES a end p₁ p
  pub sound : (v i : ℕ) → v < n → i < 16 → Seen p n v i → Seen p₁ n v i ⊎ Towards m n p₁ w set v i
  pub closed : (k v i : ℕ) → k < h → v < n → i < 16 → Before m n p k v i → Seen p n v i
  -- what comes to a position that was seen with the seeds was seen too, or walks to the seeds
  pub early : (v i u j : ℕ) → v < n → i < 16 → u < n → j < 16 → bit (get_or m.rows i 0) j ≡ true → Leads m n p₁ v j u → Seen p₁ n u j → Seen p₁ n v i ⊎ Towards m n p₁ w set v i

pub backing_start : {m : Machine} {n w set len a : ℕ} {p p₁ : List ℕ} → Work n len p → LinkedBothWays n p → Closed m n p → Added (At w set) n NODES len a p p₁
    → Backing m n w set a len a p₁ p₁
backing_start {m} {n} {w} {set} {len} {a} {p} {p₁} list linked closed g =
    record {
      linked = added_linked g linked;
      inside = g.more;
      grown = added_same g.work (λ u j h l s. s);
      sound = λ v i h l s. inl s;
      closed = λ k v i l r h b. close k v i l r h (before_old g k v i l r b);
      early = λ v i u j r h q k e t s. ⊎_elim
          (λ y. inl ((g.seen v i r h).1 (inl (closed v i u j r h q k e (leads_before g r t) y))))
          (λ (z, y). inr (j, y, on k e t (subst (λ (x : ℕ). Walk m n p₁ j u j x) z here)))
          ((g.seen u j q k).0 s);
    }
  where
    close : (k v i : ℕ) → k < len → v < n → i < 16 → Before m n p k v i → Seen p₁ n v i
    close k v i l r h (j, q, s, e, t) = (g.seen v i r h).1 (inl (closed v i (node_of p n k) j r h (list.nodes k l) q e t (list.told k j l q s)))

pub backing_step : {m : Machine} {n w set a h end end' : ℕ} {p₁ p p' : List ℕ} → Backing m n w set a h end p₁ p → h < end → Added (Before m n p h) n NODES end end' p p'
    → Backing m n w set a (h + 1) end' p₁ p'
backing_step {m} {n} {w} {set} {a} {h} {end} {end'} {p₁} {p} {p'} b l g =
    record {
      linked = added_linked g b.linked;
      inside = let e = g.more in omega arith;
      grown = added_into (λ u j r k s. inr (⊎_elim (λ y. (g.seen u j r k).1 (inl y)) (λ y. (g.seen u j r k).1 (inr y)) s)) (λ u j r k s. s) (added_then b.grown g);
      sound = λ v i r k s. ⊎_elim (b.sound v i r k) (come v i r k) ((g.seen v i r k).0 s);
      closed = λ k v i q r t s. close k v i q r t (before_old g k v i (let e = b.inside in omega arith) r s) (ℕ_discrete k h);
      early = b.early;
    }
  where
    come : (v i : ℕ) → v < n → i < 16 → Before m n p h v i → Seen p₁ n v i ⊎ Towards m n p₁ w set v i
    come v i r k (j, q, s, e, t) =
        let x = b.grown in let y = x.work.nodes h l in let z = leads_before x r t in
        ⊎_elim (b.early v i (node_of p n h) j r k y q e z) (λ (o, c, d). inr (o, c, on q e z d)) (b.sound (node_of p n h) j y q (x.work.told h j l q s))

    close : (k v i : ℕ) → k < h + 1 → v < n → i < 16 → Before m n p k v i → Dec (k ≡ h) → Seen p' n v i
    close k v i q r t s (yes e) = (g.seen v i r t).1 (inr (subst (λ (x : ℕ). Before m n p x v i) e s))
    close k v i q r t s (no d) = (g.seen v i r t).1 (inl (b.closed k v i (omega arith) r t s))

-- ── Behind the last entry ──
module _ {m : Machine} {n w set len a h end : ℕ} {p p₁ p' : List ℕ} (g : Added (At w set) n NODES len a p p₁) (b : Backing m n w set a h end p₁ p') (done : end ≤ h) where
  -- what walks to a seed is seen
  walked : {i v k x : ℕ} → Walk m n p₁ i v k x → v < n → i < 16 → x ≡ w → bit set k ≡ true → Seen p' n v i
  walked {i} {v} here l q z e = (b.grown.seen v i l q).1 (inl ((g.seen v i l q).1 (inr (z, e))))
  walked {i} {v} (on {j = j} {u = u} r f t rest) l q z e =
      let x = b.grown in let c = walk_inside l (on r f t here) in
      let (k, y, o, s) = x.work.listed u j c r (walked rest c r z e) in
      b.closed k v i (omega arith) l q (j, r, s, f, subst (λ (y : ℕ). Leads m n p' v j y) (sym o) (leads_after x l t))

  pub backing_all : Backed m n w set len end p p'
  backing_all = added_into to from (added_then g b.grown)
    where
      again : (v i : ℕ) → v < n → Towards m n p₁ w set v i → Towards m n p w set v i
      again v i l (j, e, s) = (j, e, walk_same (λ k r q. sym (spared_front g.spared k (omega arith))) l s)

      seed : (v i : ℕ) → At w set v i → Towards m n p w set v i
      seed v i (z, e) = (i, e, subst (λ (x : ℕ). Walk m n p i v i x) z here)

      to : (v i : ℕ) → v < n → i < 16 → At w set v i ⊎ Seen p' n v i → Seen p n v i ⊎ Towards m n p w set v i
      to v i l q (inl y) = inr (seed v i y)
      to v i l q (inr y) = ⊎_elim (λ s. ⊎_map (λ s. s) (seed v i) ((g.seen v i l q).0 s)) (λ s. inr (again v i l s)) (b.sound v i l q y)

      from : (v i : ℕ) → v < n → i < 16 → Towards m n p w set v i → Seen p' n v i
      from v i l q (j, e, s) = walked (walk_same (λ k r q. spared_front g.spared k (omega arith)) l s) l q refl e
