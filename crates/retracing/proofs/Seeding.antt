-- Seeds with notes: one node, node after node, and the loop over the nodes of a rank.
use Prim.Native.Nat.{ℕ, suc, ◌+◌, ◌*◌, ◌≤◌, ◌<◌}
use mathlib.Core.Path.{◌≡◌, refl, sym, ap, ◌∙◌, subst}
use mathlib.Core.Bool.{Bool, true, false, false≢true}
use mathlib.Core.Logic.{◌⊎◌, inl, inr, ⊎_elim, ⊎_map, ◌↔◌}
use mathlib.Core.List.{List}
use native.Mathlib.Decide.{ℕ_discrete, dec_lt}
use native.Mathlib.Nat.{mul-le-mul_right}
use native.Mathlib.Omega.{arith}
use Rattle.bits.specs.Sets.{bit}
use Rattle.layout.specs.Groups.{FIRST, NEXT}
use Rattle.layout.specs.Part.{SEEN}
use Rattle.layout.specs.Sweeps.{LEAST, ABOVE}
use Rattle.layout.specs.Table.{RANK}
use Rattle.layout.specs.Words.{cell, word}
use Rattle.table.specs.Links.{Points}
use Rattle.machine.specs.declared.Machine.{Machine}
use Rattle.machine.specs.Walks.{Stops}
use Rattle.buckets.specs.Buckets.{Least, Buckets}
use Rattle.buckets.proofs.Least.{least_some, next_ranked}
use Rattle.reach.specs.Work.{Seen, Work, Added}
use Rattle.retracing.specs.Backward.{LinkedBothWays, OfEntries, New, Closed, Ends, Backed}
use Rattle.retracing.specs.Notes.{Paired, Notes, Seeded}
use Rattle.reach.proofs.Adding.{spared_front, spared_aside, added_same}
use Rattle.retracing.proofs.Entries.{entry_new, new_entry}
use Rattle.retracing.proofs.Spreading.{added_linked}
use Rattle.retracing.proofs.Ending.{ends_closed, ends_as, ends_then}
use Rattle.retracing.proofs.Noting.{noted_as, noted_then, noted_before, notes_front, notes_seen, notes_node, notes_set, notes_work}

-- ── One node ──
module _ {m : Machine} {n w c x len end : ℕ} {p q r : List ℕ} (list : Work n len p) (inside : w < n) (small : m.second < 16) (paired : Paired c)
    (g : Backed m n w m.last len end p q) (f : Notes n c x (OfEntries q n 0 len end) (OfEntries q n m.second len end) q r) where
  after : (v i : ℕ) → v < n → Seen q n v i → Seen r n v i
  after v i l s = ap (λ (y : ℕ). bit y i) (notes_seen paired f v l) ∙ s

  before : (v i : ℕ) → v < n → Seen r n v i → Seen q n v i
  before v i l s = ap (λ (y : ℕ). bit y i) (sym (notes_seen paired f v l)) ∙ s

  one_added : Added (Ends m n p (λ u. u ≡ w)) n c len end p r
  one_added =
      let high : c * n ≤ ABOVE * n = mul-le-mul_right n paired.1 in
      record {
        work = notes_work paired f g.work;
        spared = record {
          same = record {
            long = f.frame.long ∙ g.spared.same.long;
            same = λ k. ⊎_elim (λ h. notes_front paired f k (omega arith) ∙ spared_front g.spared k h) (λ (l, h). f.frame.front k h ∙ spared_aside g.spared k l (omega arith));
          };
        };
        more = g.more;
        nodes = λ k h. notes_node paired f k ∙ g.nodes k h;
        sets = λ k h. notes_set paired f k ∙ g.sets k h;
        seen = λ v i l h. (
          λ s. ⊎_map (λ y. y) (λ y. (w, inside, refl, y)) ((g.seen v i l h).0 (before v i l s)),
          ⊎_elim
              (λ s. after v i l ((g.seen v i l h).1 (inl s)))
              (λ (u, k, e, s). after v i l ((g.seen v i l h).1 (inr (subst (λ (y : ℕ). Stops m n p i v y) e s)))),
        );
      }

  -- what the new entries hold is new
  fresh : (i : ℕ) → i < 16 → (v : ℕ) → v < n → OfEntries q n i len end v ↔ New n i p r v
  fresh i h v l = (
    λ o. let (s, d) = entry_new list g i v l h o in (after v i l s, d),
    λ (s, d). new_entry list g i v l h (before v i l s, d),
  )

  pub seeded_one : Seeded m n (λ u. u ≡ w) c x len end p r
  seeded_one =
      let low : LEAST * n ≤ c * n = mul-le-mul_right n paired.0 in let high : c * n ≤ ABOVE * n = mul-le-mul_right n paired.1 in
      record {
        added = one_added;
        first = noted_before (λ v l. spared_aside g.spared (cell n c v) (omega arith) (omega arith)) (noted_as (fresh 0 (omega arith)) f.first);
        second = noted_before (λ v l. spared_aside g.spared (cell n (c + 1) v) (omega arith) (omega arith)) (noted_as (fresh m.second small) f.second);
      }

-- ── Node after node ──
seeded_none : {m : Machine} {n c x len : ℕ} {E : ℕ → Type 0} {p : List ℕ} → Work n len p → ((w : ℕ) → w < n → ¬ E w) → Seeded m n E c x len len p p
seeded_none list none =
    record {
      added = added_same list (λ v i l h (w, r, e, s). absurd (none w r e));
      first = record { node = λ v l. inr (λ (s, d). d s, refl) };
      second = record { node = λ v l. inr (λ (s, d). d s, refl) };
    }

-- what is new in two steps is new in one of them
new_then : (n i : ℕ) (p q r : List ℕ) → ((v : ℕ) → v < n → Seen p n v i → Seen q n v i) → ((v : ℕ) → v < n → Seen q n v i → Seen r n v i)
    → (v : ℕ) → v < n → (New n i p q v ⊎ New n i q r v) ↔ New n i p r v
new_then n i p q r f g v l = (⊎_elim (λ (s, d). (g v l s, d)) (λ (s, d). (s, λ y. d (f v l y))), λ (s, d). go (bit (word q n SEEN v) i) refl s d)
  where
    go : (b : Bool) → bit (word q n SEEN v) i ≡ b → Seen r n v i → ¬ Seen p n v i → New n i p q v ⊎ New n i q r v
    go true e s d = inl (e, d)
    go false e s d = inr (s, λ y. false≢true (sym e ∙ y))

module _ {m : Machine} {n c x a b : ℕ} {E F : ℕ → Type 0} {p q : List ℕ} where
  seeded_as : ((w : ℕ) → w < n → E w ↔ F w) → Seeded m n E c x a b p q → Seeded m n F c x a b p q
  seeded_as same g = record { added = ends_as same g.added; first = g.first; second = g.second }

  seeded_then : {d : ℕ} {r : List ℕ} → m.second < 16 → Seeded m n E c x a b p q → Seeded m n F c x b d q r → Seeded m n (λ w. E w ⊎ F w) c x a d p r
  seeded_then {d} {r} small f g =
      record {
        added = ends_then f.added g.added;
        first = noted_as (both 0 (omega arith)) (noted_then f.first g.first);
        second = noted_as (both m.second small) (noted_then f.second g.second);
      }
    where
      both : (i : ℕ) → i < 16 → (v : ℕ) → v < n → (New n i p q v ⊎ New n i q r v) ↔ New n i p r v
      both i h = new_then n i p q r (λ v l s. (f.added.seen v i l h).1 (inl s)) (λ v l s. (g.added.seen v i l h).1 (inl s))

-- ── The loop ──
-- the nodes of rank r below w are done
pub record Seeding (m : Machine) (n r c x len w end : ℕ) (p₀ p : List ℕ) : Type 0 where
  pub linked : LinkedBothWays n p
  pub closed : Closed m n p
  pub seeded : Seeded m n (λ u. (word p₀ n RANK u ≡ r) × (u < w)) c x len end p₀ p
  pub ranked : w < n → word p₀ n RANK w ≡ r

-- from v on, the first node of rank r is w: the nodes between are of another rank
module _ {n : ℕ} {p : List ℕ} {v r w : ℕ} (few : n ≤ 4096) where
  between : Points (Least n p v r) w → (u : ℕ) → v ≤ u → u < w → u < n → ¬ (word p n RANK u ≡ r)
  between (inl l) u a b i e = let z = l.least u a i e in absurd (omega arith)
  between (inr (e, none)) u a b i f = let (x, l) = least_some RANK n p v r u a i f in none x l

  node_ranked : Points (Least n p v r) w → w < n → word p n RANK w ≡ r
  node_ranked (inl l) i = l.ranked
  node_ranked (inr (e, none)) i = absurd (omega arith)

  node_after : Points (Least n p v r) w → v ≤ n → v ≤ w
  node_after (inl l) i = l.from
  node_after (inr (e, none)) i = omega arith

pub seeding_start : {m : Machine} {n r c x len w : ℕ} {p : List ℕ} → Work n len p → LinkedBothWays n p → Closed m n p → Buckets n p → r < n → w ≡ word p n FIRST r
    → Seeding m n r c x len w len p p
seeding_start {m} {n} {r} {w = w} {p = p} list linked closed buckets l e =
    let few = list.space.few in let g = subst (λ (y : ℕ). Points (Least n p 0 r) y) (sym e) (buckets.first r l) in
    record {
      linked = linked;
      closed = closed;
      seeded = seeded_none list (λ u i (z, h). between few g u (omega arith) h i z);
      ranked = node_ranked few g;
    }

module _ {m : Machine} {n r c x len w end end' w' : ℕ} {p₀ p p' : List ℕ} (small : m.second < 16) (paired : Paired c) (buckets : Buckets n p₀) (rank : r < n) (b : Seeding m n r c x len w end p₀ p) (l : w < n)
    (g : Seeded m n (λ u. u ≡ w) c x end end' p p') (e : w' ≡ word p' n NEXT w) where
  next : Points (Least n p₀ (suc w) r) w'
  next =
      let low : LEAST * n ≤ c * n = mul-le-mul_right n paired.0 in
      let q : word p' n NEXT w ≡ word p₀ n NEXT w = spared_aside g.added.spared (cell n NEXT w) (omega arith) (omega arith) ∙ spared_aside b.seeded.added.spared (cell n NEXT w) (omega arith) (omega arith) in
      next_ranked buckets rank l (b.ranked l) (e ∙ q)

  few : n ≤ 4096
  few = g.added.work.space.few

  pub seeding_on : w < w'
  seeding_on = node_after few next l

  pub seeding_step : Seeding m n r c x len w' end' p₀ p'
  seeding_step =
      record {
        linked = added_linked g.added b.linked;
        closed = ends_closed b.closed g.added;
        seeded = seeded_as same (seeded_then small b.seeded g);
        ranked = node_ranked few next;
      }
    where
      part : (u : ℕ) → u < n → word p₀ n RANK u ≡ r → u < w' → Dec (u ≡ w) → ((word p₀ n RANK u ≡ r) × (u < w)) ⊎ (u ≡ w)
      part u i z h (yes d) = inr d
      part u i z h (no d) = inl (z, before (dec_lt u w))
        where
          before : Dec (u < w) → u < w
          before (yes k) = k
          before (no k) = absurd (between few next u (omega arith) h i z)

      same : (u : ℕ) → u < n → (((word p₀ n RANK u ≡ r) × (u < w)) ⊎ (u ≡ w)) ↔ ((word p₀ n RANK u ≡ r) × (u < w'))
      same u i = (
        let k = seeding_on in ⊎_elim (λ (z, h). (z, omega arith)) (λ d. (ap (λ (y : ℕ). word p₀ n RANK y) d ∙ b.ranked l, omega arith)),
        λ (z, h). part u i z h (ℕ_discrete u w),
      )

pub seeding_all : {m : Machine} {n r c x len w end : ℕ} {p₀ p : List ℕ} → Seeding m n r c x len w end p₀ p → n ≤ w
    → Seeded m n (λ u. word p₀ n RANK u ≡ r) c x len end p₀ p
seeding_all b l = seeded_as (λ u i. (λ (z, h). z, λ z. (z, omega arith))) b.seeded
