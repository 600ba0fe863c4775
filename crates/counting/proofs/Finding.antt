-- The nodes that a walk has found, entry after entry.
use Prim.Native.Nat.{ℕ, ◌+◌, ◌≤◌, ◌<◌}
use mathlib.Core.Path.{◌≡◌, refl, sym, ap, ◌∙◌, subst}
use mathlib.Core.Logic.{◌⊎◌, inl, inr, ⊎_elim, ⊎_map, ◌↔◌, ◌≢◌}
use mathlib.Core.List.{List, [], ◌∷◌}
use native.Mathlib.Decide.{ℕ_discrete}
use native.Mathlib.Omega.{arith}
use Rattle.lists.specs.Lists.{Number}
use Rattle.lists.proofs.Lists.{number_none, number_single, number_iff, number_add}
use Rattle.layout.specs.Part.{POSITIONS, FOUND, NODES}
use Rattle.layout.specs.Words.{cell, word, Wrote}
use Rattle.layout.proofs.Frames.{wrote_frame, same_none, frame_same}
use Rattle.reach.specs.Work.{node_of, Work, Spared, Added}
use Rattle.reach.proofs.Adding.{spared_none, spared_aside}
use Rattle.reach.proofs.Keeping.{Untouched, untouched_beside, untouched_node, untouched_set}
use Rattle.retracing.specs.Backward.{Common}
use Rattle.counting.specs.Counting.{IsFound, EndsAt, Find, old, new, Clean}

-- the path ends at w by an entry below h
abbrev pub EndsBelow : List ℕ → ℕ → ℕ → ℕ → ℕ → Type 0
EndsBelow p n last h w = (k : ℕ) × (k < h) × (node_of p n k ≡ w) × EndsAt p n last k

-- the first h entries are looked at, and count nodes are found: those where the path ends by one of them
pub record Finding (n last h count : ℕ) (p : List ℕ) : Type 0 where
  pub number : Number (λ w. (w < n) × IsFound p n w) count
  pub sound : (w : ℕ) → w < n → (word p n FOUND w ≡ 0) ⊎ (IsFound p n w × EndsBelow p n last h w)
  pub complete : (k : ℕ) → k < h → EndsAt p n last k → IsFound p n (node_of p n k)

pub finding_none : {n : ℕ} (last : ℕ) {p : List ℕ} → Clean n p → Finding n last 0 0 p
finding_none last c =
    record {
      number = number_none _ (λ w (l, e). let z = c.unfound w l in let q : ◌≡◌ {A = ℕ} 0 1 = sym z ∙ e in absurd (omega arith));
      sound = λ w l. inl (c.unfound w l);
      complete = λ k l e. absurd (omega arith);
    }

-- ── What stays ──
-- the same entries, and the same nodes found
pub finding_same : {n last h count : ℕ} {p p' : List ℕ} → ((w : ℕ) → w < n → word p' n FOUND w ≡ word p n FOUND w)
    → ((k : ℕ) → k < h → node_of p' n k ≡ node_of p n k) → ((k : ℕ) → k < h → word p' n POSITIONS k ≡ word p n POSITIONS k)
    → ((k : ℕ) → k < h → node_of p n k < n) → Finding n last h count p → Finding n last h count p'
finding_same {n} {last} {h} {count} {p} {p'} found nodes sets inside g =
    record {
      number = number_iff (λ w. (λ (l, e). (l, found w l ∙ e), λ (l, e). (l, sym (found w l) ∙ e))) g.number;
      sound = λ w l. ⊎_map
          (λ z. found w l ∙ z)
          (λ (e, (k, r, q, c)). (found w l ∙ e, (k, r, nodes k r ∙ q, subst (λ (x : ℕ). Common x last) (sym (sets k r)) c)))
          (g.sound w l);
      complete = λ k r c.
          ap (λ (x : ℕ). word p' n FOUND x) (nodes k r) ∙ found (node_of p n k) (inside k r) ∙ g.complete k r (subst (λ (x : ℕ). Common x last) (sets k r) c);
    }

-- further entries
pub finding_added : {R : ℕ → ℕ → Type 0} {n last h count len len' : ℕ} {p p' : List ℕ} → Work n len p → h ≤ len → Added R n NODES len len' p p'
    → Finding n last h count p → Finding n last h count p'
finding_added {n} w l g = finding_same
    (λ u r. spared_aside g.spared (cell n FOUND u) (omega arith) (omega arith))
    (λ k r. g.nodes k (omega arith))
    (λ k r. g.sets k (omega arith))
    (λ k r. w.nodes k (omega arith))

-- ── One entry ──
-- u and s are the node and the positions of entry h
module _ {n h u s : ℕ} {p : List ℕ} (last count : ℕ) (entry : (u ≡ node_of p n h) × (s ≡ word p n POSITIONS h)) where
  pub find_passed : ¬ Common s last → Find n last h count count p p
  find_passed f = old (λ c. absurd (f (subst (λ (x : ℕ). Common x last) (sym entry.1) c))) refl refl

  pub find_known : IsFound p n u → Find n last h count count p p
  find_known i = old (λ c. subst (λ (x : ℕ). IsFound p n x) entry.0 i) refl refl

  pub find_new : {p' : List ℕ} → Common s last → ¬ IsFound p n u → Wrote ((cell n FOUND u, 1) ∷ []) p p' → Find n last h count (count + 1) p p'
  find_new {p'} c i w = new
      (subst (λ (x : ℕ). Common x last) entry.1 c)
      (λ j. i (subst (λ (x : ℕ). IsFound p n x) (sym entry.0) j))
      refl
      (subst (λ (x : ℕ). Wrote ((cell n FOUND x, 1) ∷ []) p p') entry.0 w)

module _ {n last h count count' : ℕ} {p p' : List ℕ} where
  -- one node more at most
  pub find_count : Find n last h count count' p p' → count' ≤ count + 1
  find_count (old known e z) = omega arith
  find_count (new ends fresh e w) = omega arith

  module _ (inside : node_of p n h < n) where
    pub find_untouched : Find n last h count count' p p' → Untouched n p p'
    find_untouched (old known e z) = subst (λ (q : List ℕ). Untouched n p q) (sym z) (record { same = same_none p })
    find_untouched (new ends fresh e w) = untouched_beside (wrote_frame w) (omega arith) (omega arith)

    pub find_spared : Find n last h count count' p p' → Spared n FOUND p p'
    find_spared (old known e z) = subst (λ (q : List ℕ). Spared n FOUND p q) (sym z) (spared_none n FOUND p)
    find_spared (new ends fresh e w) = record { same = frame_same (λ k. ⊎_elim (λ l. inl (omega arith)) (λ (l, r). inl (omega arith))) (wrote_frame w) }

    pub finding_step : ((k : ℕ) → k < h → node_of p n k < n) → Finding n last h count p → Find n last h count count' p p' → Finding n last (h + 1) count' p'
    finding_step nodes g (old known e z) = subst (λ (q : List ℕ). Finding n last (h + 1) count' q) (sym z) (subst (λ c. Finding n last (h + 1) c p) (sym e) again)
      where
        complete : (k : ℕ) → k < h + 1 → EndsAt p n last k → Dec (k ≡ h) → IsFound p n (node_of p n k)
        complete k l c (yes q) = subst (λ (x : ℕ). IsFound p n (node_of p n x)) (sym q) (known (subst (EndsAt p n last) q c))
        complete k l c (no d) = g.complete k (omega arith) c

        again : Finding n last (h + 1) count p
        again =
            record {
              number = g.number;
              sound = λ w l. ⊎_map (λ y. y) (λ (i, (k, r, q, c)). (i, (k, omega arith, q, c))) (g.sound w l);
              complete = λ k l c. complete k l c (ℕ_discrete k h);
            }
    finding_step nodes g (new ends fresh e w) = subst (λ c. Finding n last (h + 1) c p') (sym e) again
      where
        untouched : Untouched n p p'
        untouched = find_untouched (new ends fresh e w)

        other : (x : ℕ) → x < n → x ≢ node_of p n h → word p' n FOUND x ≡ word p n FOUND x
        other x l d = w.other (cell n FOUND x) (omega arith, tt)

        here : (x : ℕ) → x ≡ node_of p n h → IsFound p' n x
        here x z = ap (λ (y : ℕ). word p' n FOUND y) z ∙ w.here.0

        still : (x : ℕ) → x < n → IsFound p n x → Dec (x ≡ node_of p n h) → IsFound p' n x
        still x l i (yes z) = here x z
        still x l i (no d) = other x l d ∙ i

        ends_still : (k : ℕ) → EndsAt p n last k ↔ EndsAt p' n last k
        ends_still k = (
          subst (λ (x : ℕ). Common x last) (sym (untouched_set untouched k)),
          subst (λ (x : ℕ). Common x last) (untouched_set untouched k),
        )

        split : (x : ℕ) → x < n → IsFound p' n x → Dec (x ≡ node_of p n h) → ((x < n) × IsFound p n x) ⊎ (x ≡ node_of p n h)
        split x l i (yes z) = inr z
        split x l i (no d) = inl (l, sym (other x l d) ∙ i)

        both : (x : ℕ) → (((x < n) × IsFound p n x) ⊎ (x ≡ node_of p n h)) ↔ ((x < n) × IsFound p' n x)
        both x = (
          ⊎_elim (λ (l, i). (l, still x l i (ℕ_discrete x (node_of p n h)))) (λ z. (subst (λ (y : ℕ). y < n) (sym z) inside, here x z)),
          λ (l, i). split x l i (ℕ_discrete x (node_of p n h)),
        )

        sound : (x : ℕ) → x < n → Dec (x ≡ node_of p n h) → (word p' n FOUND x ≡ 0) ⊎ (IsFound p' n x × EndsBelow p' n last (h + 1) x)
        sound x l (yes z) = inr (here x z, (h, omega arith, untouched_node untouched h ∙ sym z, (ends_still h).0 ends))
        sound x l (no d) = ⊎_map
            (λ z. other x l d ∙ z)
            (λ (i, (k, r, q, c)). (other x l d ∙ i, (k, omega arith, untouched_node untouched k ∙ q, (ends_still k).0 c)))
            (g.sound x l)

        complete : (k : ℕ) → k < h + 1 → EndsAt p n last k → Dec (k ≡ h) → IsFound p' n (node_of p n k)
        complete k l c (yes z) = here (node_of p n k) (ap (node_of p n) z)
        complete k l c (no d) = let r : k < h = omega arith in still (node_of p n k) (nodes k r) (g.complete k r c) (ℕ_discrete (node_of p n k) (node_of p n h))

        again : Finding n last (h + 1) (count + 1) p'
        again =
            record {
              number = number_iff both (number_add g.number (number_single (node_of p n h)) (λ x (l, i) z. fresh (subst (IsFound p n) z i)));
              sound = λ x l. sound x l (ℕ_discrete x (node_of p n h));
              complete = λ k l c. ap (λ (y : ℕ). word p' n FOUND y) (untouched_node untouched k) ∙ complete k l ((ends_still k).1 c) (ℕ_discrete k h);
            }
