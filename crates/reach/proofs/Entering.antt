-- One set added at one node: where nothing of it is new, all stays as it is; and else the new positions get an entry.
use Prim.Native.Nat.{ℕ, ◌+◌, ◌*◌, ◌≤◌, ◌<◌}
use mathlib.Core.Path.{◌≡◌, refl, sym, ap, ◌∙◌, subst}
use mathlib.Core.Bool.{Bool, true, false, not, false≢true}
use mathlib.Core.Logic.{◌≢◌, ◌⊎◌, inl, inr, ⊎_elim, ⊎_map}
use mathlib.Core.List.{List}
use native.Mathlib.Decide.{ℕ_discrete}
use native.Mathlib.Omega.{arith}
use lib.Count.{count_trailing_zeros}
use borrow.Author.Tests.{not-true}
use Rattle.bits.specs.Sets.{bit, or, and, size}
use Rattle.bits.proofs.SetLaws.{bit_none, size_le}
use Rattle.layout.specs.Part.{SEEN, NODES, POSITIONS}
use Rattle.layout.specs.Words.{cell, word, Wrote}
use Rattle.reach.specs.Work.{Seen, Has, node_of, total, Work, Spared, Added, At, entered}
use Rattle.matrices.proofs.Members.{or_cases, or_left, or_right, and_both, and_parts, lowest, size_less}
use Rattle.reach.proofs.Totals.{total_room, total_more}
use Rattle.reach.proofs.Adding.{spared_space, added_same}

-- nothing of w is new
pub added_known : {n d len : ℕ} {p : List ℕ} → Work n len p → (u w new : ℕ) → ((j : ℕ) → bit new j ≡ and (bit w j) (not (bit (word p n SEEN u) j))) → new ≡ 0
    → Added (At u w) n d len len p p
added_known {n} {p = p} work u w new without none =
    added_same work (λ x j h l (e, b). ap (λ (v : ℕ). bit (word p n SEEN v) j) e ∙ go (bit w j) (bit (word p n SEEN u) j) b (sym (without j) ∙ ap (λ (v : ℕ). bit v j) none ∙ bit_none j))
  where
    go : (a b : Bool) → a ≡ true → and a (not b) ≡ false → b ≡ true
    go a true e q = refl
    go true false e q = sym q
    go false false e q = e

-- ── What is new ──
-- all are the positions seen before and those of w, and the new ones are those of w that were not seen before
pub record Fresh (was w all new : ℕ) : Type 0 where
  pub union : (j : ℕ) → bit all j ≡ or (bit was j) (bit w j)
  pub without : (j : ℕ) → bit new j ≡ and (bit w j) (not (bit was j))
  pub some : 0 < new
  pub fits : new < 65_536

module _ {was w all new : ℕ} (f : Fresh was w all new) where
  pub new_parts : (j : ℕ) → bit new j ≡ true → (bit w j ≡ true) × (bit was j ≡ false)
  new_parts j e = let (a, b) = and_parts (bit w j) (not (bit was j)) (sym (f.without j) ∙ e) in (a, not-true (bit was j) b)

  fresh_was : (j : ℕ) → bit was j ≡ true → bit all j ≡ true
  fresh_was j e = f.union j ∙ or_left (bit was j) (bit w j) e

  fresh_set : (j : ℕ) → bit w j ≡ true → bit all j ≡ true
  fresh_set j e = f.union j ∙ or_right (bit was j) (bit w j) e

  -- what is seen now was seen before or is new
  fresh_cases : (j : ℕ) → bit all j ≡ true → (bit was j ≡ true) ⊎ (bit new j ≡ true)
  fresh_cases j e = go (bit was j) refl (or_cases (bit was j) (bit w j) (sym (f.union j) ∙ e))
    where
      go : (b : Bool) → bit was j ≡ b → (bit was j ≡ true) ⊎ (bit w j ≡ true) → (bit was j ≡ true) ⊎ (bit new j ≡ true)
      go true q x = inl q
      go false q (inl x) = inl x
      go false q (inr x) = inr (f.without j ∙ and_both (bit w j) (not (bit was j)) x (ap not q))

  larger : size 16 was < size 16 all
  larger =
      let (l, e) = lowest 16 new f.some f.fits in let (a, b) = new_parts (count_trailing_zeros 16 new) e in
      size_less 16 was all (count_trailing_zeros 16 new) (λ j h. fresh_was j) l b (fresh_set (count_trailing_zeros 16 new) a)

-- ── An entry for the new ones ──
module _ {n u w all new len : ℕ} {p : List ℕ} (work : Work n len p) (inside : u < n) (f : Fresh (word p n SEEN u) w all new) where
  -- not all is seen at u, so the list is not full
  pub enter_room : len < 16 * n
  enter_room =
      let c = work.count in let s = larger f in let l = size_le 16 all in
      let t = total_room p n u n inside (omega arith) in
      omega arith

  module _ {p' : List ℕ} (wrote : Wrote (entered n u all new len) p p') where
    other_seen : (x : ℕ) → x < n → x ≢ u → word p' n SEEN x ≡ word p n SEEN x
    other_seen x h d = let r = enter_room in wrote.other (cell n SEEN x) (omega arith, (omega arith, (omega arith, tt)))

    old_node : (k : ℕ) → k < len → node_of p' n k ≡ node_of p n k
    old_node k h = let r = enter_room in wrote.other (cell n NODES k) (omega arith)

    old_set : (k : ℕ) → k < len → word p' n POSITIONS k ≡ word p n POSITIONS k
    old_set k h = let r = enter_room in wrote.other (cell n POSITIONS k) (omega arith)

    -- what is seen now was seen before, or is new at u
    seen_cases : (x j : ℕ) → x < n → Seen p' n x j → Seen p n x j ⊎ ((x ≡ u) × (bit new j ≡ true))
    seen_cases x j h s = go (ℕ_discrete x u)
      where
        go : Dec (x ≡ u) → Seen p n x j ⊎ ((x ≡ u) × (bit new j ≡ true))
        go (yes e) = ⊎_map
            (λ y. ap (λ (v : ℕ). bit (word p n SEEN v) j) e ∙ y)
            (λ y. (e, y))
            (fresh_cases f j (ap (λ (v : ℕ). bit v j) (sym wrote.here.1.1.0) ∙ ap (λ (v : ℕ). bit (word p' n SEEN v) j) (sym e) ∙ s))
        go (no d) = inl (ap (λ (v : ℕ). bit v j) (sym (other_seen x h d)) ∙ s)

    seen_still : (x j : ℕ) → x < n → Seen p n x j → Seen p' n x j
    seen_still x j h s = go (ℕ_discrete x u)
      where
        go : Dec (x ≡ u) → Seen p' n x j
        go (yes e) = ap (λ (v : ℕ). bit (word p' n SEEN v) j) e ∙ ap (λ (v : ℕ). bit v j) wrote.here.1.1.0 ∙ fresh_was f j (ap (λ (v : ℕ). bit (word p n SEEN v) j) (sym e) ∙ s)
        go (no d) = ap (λ (v : ℕ). bit v j) (other_seen x h d) ∙ s

    seen_set : (j : ℕ) → bit w j ≡ true → Seen p' n u j
    seen_set j e = ap (λ (v : ℕ). bit v j) wrote.here.1.1.0 ∙ fresh_set f j e

    entered_nodes : (k : ℕ) → k < len + 1 → Dec (k ≡ len) → node_of p' n k < n
    entered_nodes k h (yes e) = subst (λ (x : ℕ). x < n) (sym (ap (λ (i : ℕ). node_of p' n i) e ∙ wrote.here.1.0)) inside
    entered_nodes k h (no d) = subst (λ (x : ℕ). x < n) (sym (old_node k (omega arith))) (work.nodes k (omega arith))

    entered_told : (k j : ℕ) → k < len + 1 → j < 16 → Has p' n k j → Dec (k ≡ len) → Seen p' n (node_of p' n k) j
    entered_told k j h l s (yes e) =
        subst (λ (x : ℕ). Seen p' n x j) (sym (ap (λ (i : ℕ). node_of p' n i) e ∙ wrote.here.1.0))
        (seen_set j (new_parts f j (ap (λ (v : ℕ). bit v j) (sym wrote.here.0) ∙ ap (λ (i : ℕ). bit (word p' n POSITIONS i) j) (sym e) ∙ s)).0)
    entered_told k j h l s (no d) =
        subst (λ (x : ℕ). Seen p' n x j) (sym (old_node k (omega arith)))
        (seen_still (node_of p n k) j (work.nodes k (omega arith)) (work.told k j (omega arith) l (ap (λ (v : ℕ). bit v j) (sym (old_set k (omega arith))) ∙ s)))

    entered_listed : (x j : ℕ) → x < n → j < 16 → Seen p n x j ⊎ ((x ≡ u) × (bit new j ≡ true)) → (k : ℕ) × (k < len + 1) × (node_of p' n k ≡ x) × Has p' n k j
    entered_listed x j h l (inl s) =
        let (k, r, e, b) = work.listed x j h l s in
        (k, omega arith, old_node k r ∙ e, ap (λ (v : ℕ). bit v j) (old_set k r) ∙ b)
    entered_listed x j h l (inr (e, b)) = (len, omega arith, wrote.here.1.0 ∙ sym e, ap (λ (v : ℕ). bit v j) wrote.here.0 ∙ b)

    -- what an entry has was seen, so the new entry has none of it
    apart : (k j : ℕ) → k < len → j < 16 → node_of p' n k ≡ node_of p' n len → Has p' n k j → ¬ Has p' n len j
    apart k j l h e a b =
        let x = work.told k j l h (ap (λ (y : ℕ). bit y j) (sym (old_set k l)) ∙ a) in
        let q : node_of p n k ≡ u = sym (old_node k l) ∙ e ∙ wrote.here.1.0 in
        let (i, o) = new_parts f j (ap (λ (y : ℕ). bit y j) (sym wrote.here.0) ∙ b) in
        false≢true (sym o ∙ subst (λ (y : ℕ). Seen p n y j) q x)

    entered_once : (k l j : ℕ) → k < len + 1 → l < len + 1 → j < 16 → node_of p' n k ≡ node_of p' n l → Has p' n k j → Has p' n l j → Dec (k ≡ len) → Dec (l ≡ len) → k ≡ l
    entered_once k l j h i s e a b (yes x) (yes y) = x ∙ sym y
    entered_once k l j h i s e a b (yes x) (no y) =
        absurd (apart l j (omega arith) s (sym e ∙ ap (node_of p' n) x) b (subst (λ (z : ℕ). Has p' n z j) x a))
    entered_once k l j h i s e a b (no x) (yes y) =
        absurd (apart k j (omega arith) s (e ∙ ap (node_of p' n) y) a (subst (λ (z : ℕ). Has p' n z j) y b))
    entered_once k l j h i s e a b (no x) (no y) =
        let c : k < len = omega arith in let d : l < len = omega arith in
        work.once k l j c d s (sym (old_node k c) ∙ e ∙ old_node l d) (ap (λ (y : ℕ). bit y j) (sym (old_set k c)) ∙ a) (ap (λ (y : ℕ). bit y j) (sym (old_set l d)) ∙ b)

    entered_count : len + 1 ≤ total p' n n
    entered_count =
        let s = larger f in let e = ap (size 16) wrote.here.1.1.0 in let c = work.count in
        let t = total_more p p' n u other_seen n (omega arith) inside (omega arith) in
        omega arith

    entered_spared : Spared n NODES p p'
    entered_spared =
        let r = enter_room in
        record { same = record { long = wrote.long; same = λ k. ⊎_elim (λ h. wrote.other k (omega arith)) (λ (l, h). wrote.other k (omega arith, (omega arith, (omega arith, tt)))) } }

    pub added_new : Added (At u w) n NODES len (len + 1) p p'
    added_new =
        record {
          work = record {
            space = spared_space entered_spared work.space;
            nodes = λ k h. entered_nodes k h (ℕ_discrete k len);
            told = λ k j h l s. entered_told k j h l s (ℕ_discrete k len);
            listed = λ x j h l s. entered_listed x j h l (seen_cases x j h s);
            once = λ k l j h i s e a b. entered_once k l j h i s e a b (ℕ_discrete k len) (ℕ_discrete l len);
            count = entered_count;
          };
          spared = entered_spared;
          more = omega arith;
          nodes = old_node;
          sets = old_set;
          seen = λ x j h l. (
            λ s. ⊎_map (λ y. y) (λ (e, b). (e, (new_parts f j b).0)) (seen_cases x j h s),
            ⊎_elim (seen_still x j h) (λ (e, b). subst (λ (v : ℕ). Seen p' n v j) (sym e) (seen_set j b)),
          );
        }
