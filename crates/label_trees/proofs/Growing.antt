-- One line more: the lines that were held are met as before, and the new one by the link that was free.
use Prim.Native.Nat.{ℕ, suc, ◌+◌, ◌*◌, ◌≤◌, ◌<◌}
use mathlib.Core.Path.{◌≡◌, sym, ap, ◌∙◌, subst}
use mathlib.Core.Logic.{◌≢◌, ◌⊎◌, inl, inr, ⊎_elim}
use mathlib.Core.List.{List}
use native.Mathlib.Decide.{ℕ_discrete}
use native.Mathlib.Omega.{arith}
use borrow.Author.Count.{below_more}
use lib.ListN.{length, get_or}
use Rattle.label_trees.specs.Trees.{key_at, held, heads, offset_at, Meets, Holds, Placed, Inserted, Grown}
use Rattle.std.specs.Prelude.{Some}
use Rattle.label_trees.proofs.Links.{Way, Alike, Reached, reached, link_same, way_same, meets_same}

module _ {s t : List ℕ} (h : Holds s t) (o p : ℕ) (place : Placed s t o (Some p)) where
  -- the link that is free is one of the words in use, and no offset
  pub free_inside : (0 < p) × (p < heads + 3 * held t) × ((k : ℕ) → p ≢ heads + 3 * k)
  free_inside =
      let r : Reached t (key_at s o) place.1.0 = reached h (key_at s o) place.1.0 place.1.3 in
      rw place.1.1 (r.above, r.inside, r.apart)

  module _ {t' : List ℕ} (room : heads + 3 * suc (held t) ≤ length t) (w : Inserted t p o t') where
    -- no search for a line that was held went by the free link
    alike : Alike t t'
    alike j above inside leads = w.other j (omega arith) (λ e. let z = ap (λ (i : ℕ). get_or t i 0) e in let f = place.1.2 in omega arith) inside

    -- a root or a link is as before, or the one that leads to the new line
    link_now : (j : ℕ) → 0 < j → j < heads + 3 * held t → (get_or t' j 0 ≡ suc (held t)) ⊎ (get_or t' j 0 ≡ get_or t j 0)
    link_now j above inside = go (ℕ_discrete j p)
      where
        go : Dec (j ≡ p) → (get_or t' j 0 ≡ suc (held t)) ⊎ (get_or t' j 0 ≡ get_or t j 0)
        go (yes e) = inl (ap (λ (i : ℕ). get_or t' i 0) e ∙ w.link)
        go (no d) = inr (w.other j (omega arith) d inside)

    offset_old : (k : ℕ) → k < held t → offset_at t' k ≡ offset_at t k
    offset_old k l = w.other (heads + 3 * k) (omega arith) (λ e. free_inside.2 k (sym e)) (omega arith)

    met_old : (k : ℕ) → k < held t → Meets t' (key_at s (offset_at t' k)) (suc k)
    met_old k l =
        subst (λ (a : ℕ). Meets t' (key_at s a) (suc k)) (sym (offset_old k l))
        (meets_same h t' alike (key_at s (offset_at t k)) (suc k) (omega arith) (h.met k l))

    met_new : Meets t' (key_at s o) (suc (held t))
    met_new =
        let d : ℕ = place.1.0 in
        let v : Way t (key_at s o) d = place.1.3 in
        record {
          steps = d;
          here = ap (λ (j : ℕ). get_or t' j 0) (link_same h t' alike (key_at s o) d v ∙ sym place.1.1) ∙ w.link;
          on = way_same h t' alike (key_at s o) d v;
        }

    -- what holds of each old line and of the new one holds of all
    each : (P : ℕ → Type 0) → ((k : ℕ) → k < held t → P k) → P (held t) → (k : ℕ) → k < held t' → P k
    each P old new k l = below_more P (held t) old new k (let e = w.count in omega arith)

    link_held : (j : ℕ) → 0 < j → j < heads + 3 * held t → get_or t j 0 ≤ held t → get_or t' j 0 ≤ held t'
    link_held j above inside le = let e = w.count in ⊎_elim (λ e₁. omega arith) (λ e₁. omega arith) (link_now j above inside)

    link_rises : (k i : ℕ) → i < 2 → k < held t → 0 < get_or t' (18 + 3 * k + i) 0 → suc k < get_or t' (18 + 3 * k + i) 0
    link_rises k i two l z =
        ⊎_elim (λ e. omega arith) (λ e. let r = h.rising k i l two (omega arith) in omega arith) (link_now (18 + 3 * k + i) (omega arith) (omega arith))

    pub grown : Grown s t o t'
    grown =
        let c = w.count in
        record {
          long = w.long;
          fresh = place.0;
          holds =
              record {
                room = let e = w.long in omega arith;
                roots = λ r l. link_held (1 + r) (omega arith) (omega arith) (h.roots r l);
                links = λ k i l two.
                    each (λ m. get_or t' (18 + 3 * m + i) 0 ≤ held t')
                    (λ m n. link_held (18 + 3 * m + i) (omega arith) (omega arith) (h.links m i n two))
                    (let f = w.free i two in omega arith) k l;
                rising = λ k i l two.
                    each (λ m. 0 < get_or t' (18 + 3 * m + i) 0 → suc m < get_or t' (18 + 3 * m + i) 0) (λ m n. link_rises m i two n)
                    (λ z. let f = w.free i two in absurd (omega arith)) k l;
                met = each (λ m. Meets t' (key_at s (offset_at t' m)) (suc m)) met_old (rw w.offset met_new);
              };
          more = c;
          old = offset_old;
          new = w.offset;
        }
