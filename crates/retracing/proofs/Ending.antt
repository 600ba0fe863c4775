-- What is seen where ends at some nodes: such additions follow each other, and what is seen stays closed.
use Prim.Native.Nat.{ℕ, ◌*◌, ◌≤◌, ◌<◌}
use mathlib.Core.Path.{◌≡◌, refl, sym}
use mathlib.Core.Logic.{◌⊎◌, inl, inr, ⊎_elim, ◌↔◌}
use mathlib.Core.List.{List}
use native.Mathlib.Omega.{arith}
use lib.ListN.{get_or}
use Rattle.layout.specs.Part.{HIT}
use Rattle.layout.specs.Table.{LEFT}
use Rattle.machine.specs.declared.Machine.{Machine}
use Rattle.machine.specs.Walks.{on}
use Rattle.reach.specs.Work.{Work, Added}
use Rattle.reach.proofs.Walks.{leads_same, walk_same}
use Rattle.retracing.specs.Backward.{Closed, Ends}
use Rattle.reach.proofs.Adding.{spared_front, added_then, added_into}
use Rattle.reach.proofs.Clearing.{unseen}

pub closed_none : {m : Machine} {n : ℕ} {p : List ℕ} → Work n 0 p → Closed m n p
closed_none g v i u j l h r k e t s = absurd (unseen g u j r k s)

module _ {m : Machine} {n : ℕ} {p q : List ℕ} (same : (k : ℕ) → LEFT * n ≤ k → k < HIT * n → get_or q k 0 ≡ get_or p k 0) {E F : ℕ → Type 0} (also : (w : ℕ) → w < n → E w → F w) where
  pub ends_same : {v i : ℕ} → v < n → Ends m n p E v i → Ends m n q F v i
  ends_same l (w, r, e, (j, b, s)) = (w, r, also w r e, (j, b, walk_same same l s))

-- what is seen now was seen, or ends there
pub ends_closed : {m : Machine} {n d a b : ℕ} {E : ℕ → Type 0} {p q : List ℕ} → Closed m n p → Added (Ends m n p E) n d a b p q → Closed m n q
ends_closed closed g v i u j l h r k e t s =
    let y = leads_same (λ x y z. sym (spared_front g.spared x (omega arith))) l t in
    ⊎_elim
    (λ z. (g.seen v i l h).1 (inl (closed v i u j l h r k e y z)))
    (λ (w, c, d, (o, f, z)). (g.seen v i l h).1 (inr (w, c, d, (o, f, on k e y z))))
    ((g.seen u j r k).0 s)

module _ {m : Machine} {n d a b : ℕ} {E F : ℕ → Type 0} {p q : List ℕ} where
  -- the same nodes, said otherwise
  pub ends_as : ((w : ℕ) → w < n → E w ↔ F w) → Added (Ends m n p E) n d a b p q → Added (Ends m n p F) n d a b p q
  ends_as same g = added_into
      (λ v i l h (w, r, e, s). inr (w, r, (same w r).0 e, s))
      (λ v i l h (w, r, e, s). (g.seen v i l h).1 (inr (w, r, (same w r).1 e, s)))
      g

  pub ends_then : {c : ℕ} {r : List ℕ} → Added (Ends m n p E) n d a b p q → Added (Ends m n q F) n d b c q r → Added (Ends m n p (λ w. E w ⊎ F w)) n d a c p r
  ends_then f g =
      let h = added_then f g in
      added_into
      (λ v i l k x. inr (⊎_elim (ends_same (λ y z o. refl) (λ w r e. inl e) l) (ends_same (λ y z o. sym (spared_front f.spared y (omega arith))) (λ w r e. inr e) l) x))
      (λ v i l k (w, r, e, s). (h.seen v i l k).1 (⊎_elim
      (λ z. inr (inl (w, r, z, s)))
      (λ z. inr (inr (ends_same (λ y z o. spared_front f.spared y (omega arith)) (λ w r e. e) l (w, r, z, s))))
      e))
      h
