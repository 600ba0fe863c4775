-- The loop over the work list: what is seen was walked to, and behind the entries that are done nothing is missed.
use Prim.Native.Nat.{ℕ, ◌+◌, ◌≤◌, ◌<◌}
use mathlib.Core.Path.{◌≡◌, refl, sym, ap, ◌∙◌, subst, subst₂}
use mathlib.Core.Bool.{true, false≢true}
use mathlib.Core.Logic.Iff
use mathlib.Core.Logic.{inl, inr, ⊎_elim, ◌↔◌}
use mathlib.Core.List.{List}
use native.Mathlib.Decide.{ℕ_discrete}
use native.Mathlib.Omega.{arith}
use lib.ListN.{get_or}
use Rattle.bits.specs.Sets.{bit, or, is}
use Rattle.machine.specs.declared.Machine.{Machine}
use Rattle.layout.specs.Part.{NODES, POSITIONS}
use Rattle.layout.specs.Words.{word}
use Rattle.machine.specs.Walks.{Leads, Walk, here, on}
use Rattle.machine.proofs.Walking.{walk_inside}
use Rattle.reach.specs.Reached.{Reached}
use Rattle.reach.specs.Work.{Seen, node_of, Work, Spared, Added, At, Onward, After}
use Rattle.matrices.proofs.Members.{single_in, single_out}
use Rattle.reach.proofs.Walks.{leads_same, walk_on, walk_same}
use Rattle.reach.proofs.Adding.{spared_none, spared_then, spared_fewer, spared_front, added_as}
use Rattle.reach.proofs.Clearing.{unseen}
use Rattle.reach.proofs.Keeping.{Untouched, untouched_seen, untouched_node, untouched_set, untouched_work}

-- ── One entry ──
-- v and s are the node and the positions of entry h
pub added_after : {m : Machine} {n d len len' v s : ℕ} {p p' : List ℕ} (h f : ℕ) → (v ≡ node_of p n h) × (s ≡ word p n POSITIONS h)
    → ((j : ℕ) → j < 16 → (bit f j ≡ true) ↔ ((i : ℕ) × (i < 16) × (bit s i ≡ true) × (bit (get_or m.rows i 0) j ≡ true)))
    → Added (Onward m n p v f) n d len len' p p' → Added (After m n p h) n d len len' p p'
added_after {m} {n} {p = p} h f (node, set) follow = added_as (λ u j l k. (
  λ (b, o). let (i, r, a, e) = (follow j k).0 b in (i, r, ap (λ (y : ℕ). bit y i) (sym set) ∙ a, e, subst (λ (y : ℕ). Leads m n p y j u) node o),
  λ (i, r, a, e, o). ((follow j k).1 (i, r, ap (λ (y : ℕ). bit y i) set ∙ a, e), subst (λ (y : ℕ). Leads m n p y j u) (sym node) o),
))

-- an entry stays, and what comes after it too
after_same : {m : Machine} {n d : ℕ} {p p' : List ℕ} → Spared n d p p' → (k u j : ℕ) → node_of p n k < n → node_of p' n k ≡ node_of p n k
    → word p' n POSITIONS k ≡ word p n POSITIONS k → After m n p' k u j → After m n p k u j
after_same {m} {n} {p' = p'} g k u j inside node set (i, r, a, e, s) = (
  i,
  r,
  ap (λ (x : ℕ). bit x i) (sym set) ∙ a,
  e,
  leads_same (λ x l h. sym (spared_front g x (omega arith))) inside (subst (λ (x : ℕ). Leads m n p' x j u) node s),
)

-- ── The loop ──
-- i at v is the start, the first h of the len entries are done, and the links are those of p₀, as all columns before d but SEEN
pub record Working (m : Machine) (n d i v h len : ℕ) (p₀ p : List ℕ) : Type 0 where
  pub small : i < 16
  pub node : v < n
  pub inside : h ≤ len
  pub work : Work n len p
  pub spared : Spared n d p₀ p
  pub sound : (u j : ℕ) → u < n → j < 16 → Seen p n u j → Walk m n p₀ i v j u
  pub start : Seen p n v i
  pub closed : (k u j : ℕ) → k < h → u < n → j < 16 → After m n p k u j → Seen p n u j

pub working_start : {m : Machine} {n d i v len : ℕ} {p₁ p : List ℕ} → i < 16 → v < n → Work n 0 p₁ → (w : ℕ) → ((k : ℕ) → bit w k ≡ or (is k i) (bit 0 k))
    → Added (At v w) n NODES 0 len p₁ p → Working m n d i v 0 len p p
working_start {m} {n} {d} {i} {v} {p = p} small node empty w single g =
    record {
      small = small;
      node = node;
      inside = omega arith;
      work = g.work;
      spared = spared_none n d p;
      sound = λ u j h l s. ⊎_elim (λ t. absurd (unseen empty u j h l t)) (λ (e, b). go u j e b (ℕ_discrete j i)) ((g.seen u j h l).0 s);
      start = (g.seen v i node small).1 (inr (refl, single_in i w single));
      closed = λ k u j h. absurd (omega arith);
    }
  where
    go : (u j : ℕ) → u ≡ v → bit w j ≡ true → Dec (j ≡ i) → Walk m n p i v j u
    go u j e b (yes q) = subst₂ (λ (x y : ℕ). Walk m n p i v x y) (sym q) (sym e) here
    go u j e b (no d) = absurd (false≢true (sym (single_out i w single j d) ∙ b))

pub working_step : {m : Machine} {n d i v h len len' : ℕ} {p₀ p p' : List ℕ} → d ≤ NODES → Working m n d i v h len p₀ p → h < len
    → Added (After m n p h) n NODES len len' p p' → Working m n d i v (h + 1) len' p₀ p'
working_step {m} {n} {d} {i} {v} {h} {len} {p₀} {p} {p'} few w l g =
    record {
      small = w.small;
      node = w.node;
      inside = let e = g.more in omega arith;
      work = g.work;
      spared = spared_then w.spared (spared_fewer few g.spared);
      sound = λ u j r k s. ⊎_elim (w.sound u j r k) (λ a. come u j k a) ((g.seen u j r k).0 s);
      start = (g.seen v i w.node w.small).1 (inl w.start);
      closed = λ k u j r q t a. let e = w.inside in let b : k < len = omega arith in close k u j r q t (after_same g.spared k u j (w.work.nodes k b) (g.nodes k b) (g.sets k b) a) (ℕ_discrete k h);
    }
  where
    come : (u j : ℕ) → j < 16 → After m n p h u j → Walk m n p₀ i v j u
    come u j k (i', r, a, e, s) =
        let b = w.work.nodes h l in
        walk_on (w.sound (node_of p n h) i' b r (w.work.told h i' l r a)) k e (leads_same (λ x p q. sym (spared_front w.spared x (omega arith))) b s)

    close : (k u j : ℕ) → k < h + 1 → u < n → j < 16 → After m n p k u j → Dec (k ≡ h) → Seen p' n u j
    close k u j r q t a (yes e) = (g.seen u j q t).1 (inr (subst (λ (x : ℕ). After m n p x u j) e a))
    close k u j r q t a (no d) = (g.seen u j q t).1 (inl (w.closed k u j (omega arith) q t a))

-- what is written beside the list changes nothing
pub working_untouched : {m : Machine} {n d i v h len : ℕ} {p₀ p p' : List ℕ} → Working m n d i v h len p₀ p → Untouched n p p' → Spared n d p p'
    → Working m n d i v h len p₀ p'
working_untouched {m} {n} {p = p} {p' = p'} w g s =
    record {
      small = w.small;
      node = w.node;
      inside = w.inside;
      work = untouched_work g w.work;
      spared = spared_then w.spared s;
      sound = λ u j r k b. w.sound u j r k ((untouched_seen g u j r).0 b);
      start = (untouched_seen g _ _ w.node).1 w.start;
      closed = λ k u j r q t a. (untouched_seen g u j q).1 (w.closed k u j r q t (after_same s k u j (w.work.nodes k (let e = w.inside in omega arith)) (untouched_node g k) (untouched_set g k) a));
    }

-- ── Behind the last entry ──
module _ {m : Machine} {n d i v h len : ℕ} {p₀ p : List ℕ} (w : Working m n d i v h len p₀ p) (end : len ≤ h) where
  -- what is seen is seen all the way
  walked : {j u k x : ℕ} → Walk m n p₀ j u k x → u < n → j < 16 → Seen p n u j → Seen p n x k
  walked here l b s = s
  walked {j} (on {j = j'} {u = u'} r e t rest) l b s =
      let (k, q, z, a) = w.work.listed _ j l b s in let c = walk_inside l (on r e t here) in
      walked rest c r
      (w.closed k u' j' (omega arith) c r (j, b, a, e, subst (λ (y : ℕ). Leads m n p y j' u') (sym z) (leads_same (λ x p q. spared_front w.spared x (omega arith)) l t)))

  -- what is seen is all that is walked to
  pub working_seen : (u j : ℕ) → u < n → j < 16 → Seen p n u j ↔ Walk m n p₀ i v j u
  working_seen u j l b = (w.sound u j l b, λ t. walked t w.node w.small w.start)

-- the columns but SEEN are those of a list p₁ before the loop
pub working_all : {m : Machine} {n i v h len : ℕ} {p₁ p₀ p : List ℕ} → Working m n NODES i v h len p₀ p → len ≤ h → Spared n NODES p₁ p₀ → Reached m n i v p₁ p
working_all w end g =
    record {
      spared = spared_then g w.spared;
      seen = λ j x b l. Iff.trans
          (working_seen w end x j l b)
          (walk_same (λ k p q. sym (spared_front g k (omega arith))) w.node, walk_same (λ k p q. spared_front g k (omega arith)) w.node);
    }
