-- Laws of notes: the word written at one node, and the loop over the entries.
use Prim.Native.Nat.{ℕ, ◌+◌, ◌*◌, ◌≤◌, ◌<◌}
use mathlib.Core.Path.{◌≡◌, refl, sym, ap, ◌∙◌, subst}
use mathlib.Core.Bool.{Bool, true, false≢true}
use mathlib.Core.Logic.{◌⊎◌, inl, inr, ⊎_elim, ⊎_map, ◌↔◌, ◌≢◌}
use mathlib.Core.List.{List}
use native.Mathlib.Decide.{ℕ_discrete}
use native.Mathlib.Nat.{mul-le-mul_right}
use native.Mathlib.Omega.{arith}
use lib.ListN.{length, get_or}
use Rattle.bits.specs.Sets.{bit}
use Rattle.layout.specs.Part.{SEEN, POSITIONS}
use Rattle.layout.specs.Sweeps.{LEAST, ABOVE}
use Rattle.layout.specs.Words.{cell, word}
use Rattle.layout.proofs.Frames.{frame_none, frame_then}
use Rattle.reach.specs.Work.{node_of, Work}
use Rattle.reach.proofs.Keeping.{Untouched, untouched_beside, untouched_node, untouched_set, untouched_has, untouched_work}
use Rattle.retracing.specs.Backward.{OfEntry, OfEntries}
use Rattle.retracing.specs.Notes.{column_of, Paired, PutIf, put, skip, Noted, Notes}
use Rattle.retracing.specs.declared.bounds.Bound.{Bound}
use Rattle.retracing.specs.declared.bounds.Bound.TheVariants.{Least, Above}

-- the columns of the bounds
pub column_paired : (bound : Bound) → Paired (column_of bound)
column_paired Least = (omega arith, omega arith)
column_paired Above = (omega arith, omega arith)

-- ── One column ──
module _ {n c x : ℕ} {A B : ℕ → Type 0} {p q : List ℕ} where
  pub noted_as : ((v : ℕ) → v < n → A v ↔ B v) → Noted n c x A p q → Noted n c x B p q
  noted_as same g = record { node = λ v l. ⊎_map (λ (a, e). ((same v l).0 a, e)) (λ (a, e). (λ b. a ((same v l).1 b), e)) (g.node v l) }

  pub noted_then : {r : List ℕ} → Noted n c x A p q → Noted n c x B q r → Noted n c x (λ v. A v ⊎ B v) p r
  noted_then f g =
      record {
        node = λ v l. ⊎_elim
            (λ (b, e). inl (inr b, e))
            (λ (b, e). ⊎_map (λ (a, z). (inl a, e ∙ z)) (λ (a, z). (⊎_elim a b, e ∙ z)) (f.node v l))
            (g.node v l);
      }

-- the column is as it was before, or after
module _ {n c x : ℕ} {A : ℕ → Type 0} {p q r : List ℕ} where
  pub noted_before : ((v : ℕ) → v < n → word q n c v ≡ word p n c v) → Noted n c x A q r → Noted n c x A p r
  noted_before same g = record { node = λ v l. ⊎_map (λ a. a) (λ (a, e). (a, e ∙ same v l)) (g.node v l) }

  noted_after : Noted n c x A p q → ((v : ℕ) → v < n → word r n c v ≡ word q n c v) → Noted n c x A p r
  noted_after g same = record { node = λ v l. ⊎_map (λ (a, e). (a, same v l ∙ e)) (λ (a, e). (a, same v l ∙ e)) (g.node v l) }

-- ── One node ──
module _ {n c v x : ℕ} {b : Bool} {p q : List ℕ} where
  pub put_long : PutIf n c v b x p q → length q ≡ length p
  put_long (put e w) = w.long
  put_long (skip e z) = ap length z

  put_other : PutIf n c v b x p q → (k : ℕ) → k ≢ cell n c v → get_or q k 0 ≡ get_or p k 0
  put_other (put e w) k d = w.other k (d, tt)
  put_other (skip e z) k d = ap (λ (t : List ℕ). get_or t k 0) z

  put_noted : PutIf n c v b x p q → Noted n c x (λ u. (u ≡ v) × (b ≡ true)) p q
  put_noted (put e w) = record { node = λ u l. go u (ℕ_discrete u v) }
    where
      go : (u : ℕ) → Dec (u ≡ v) → (((u ≡ v) × (b ≡ true)) × (word q n c u ≡ x)) ⊎ ((¬ ((u ≡ v) × (b ≡ true))) × (word q n c u ≡ word p n c u))
      go u (yes z) = inl ((z, e), ap (λ (y : ℕ). word q n c y) z ∙ w.here.0)
      go u (no d) = inr (λ h. d h.0, w.other (cell n c u) (omega arith, tt))
  put_noted (skip e z) = record { node = λ u l. inr (λ h. false≢true (sym e ∙ h.1), ap (λ (t : List ℕ). word t n c u) z) }

pub notes_put : {n c v x : ℕ} {a b : Bool} {p q r : List ℕ} → v < n → PutIf n c v a x p q → PutIf n (c + 1) v b x q r
    → Notes n c x (λ u. (u ≡ v) × (a ≡ true)) (λ u. (u ≡ v) × (b ≡ true)) p r
notes_put {n} {c} {v} l f g =
    record {
      frame = record {
        long = put_long g ∙ put_long f;
        front = λ k h. put_other g k (omega arith) ∙ put_other f k (omega arith);
        behind = λ k h. put_other g k (omega arith) ∙ put_other f k (omega arith);
      };
      first = noted_after (put_noted f) (λ u h. put_other g (cell n c u) (omega arith));
      second = noted_before (λ u h. put_other f (cell n (c + 1) u) (omega arith)) (put_noted g);
    }

-- ── Notes after notes ──
notes_none : (n c x : ℕ) (p : List ℕ) {A B : ℕ → Type 0} → ((v : ℕ) → ¬ A v) → ((v : ℕ) → ¬ B v) → Notes n c x A B p p
notes_none n c x p a b = record { frame = frame_none p; first = record { node = λ v l. inr (a v, refl) }; second = record { node = λ v l. inr (b v, refl) } }

-- the same column, said otherwise
pub notes_in : {n c d x : ℕ} {A B : ℕ → Type 0} {p q : List ℕ} → c ≡ d → Notes n c x A B p q → Notes n d x A B p q
notes_in {n} {x = x} {A} {B} {p} {q} e g = subst (λ (y : ℕ). Notes n y x A B p q) e g

module _ {n c x : ℕ} {A B C D : ℕ → Type 0} {p q : List ℕ} where
  notes_as : ((v : ℕ) → v < n → A v ↔ C v) → ((v : ℕ) → v < n → B v ↔ D v) → Notes n c x A B p q → Notes n c x C D p q
  notes_as s t g = record { frame = g.frame; first = noted_as s g.first; second = noted_as t g.second }

  notes_then : {r : List ℕ} → Notes n c x A B p q → Notes n c x C D q r → Notes n c x (λ v. A v ⊎ C v) (λ v. B v ⊎ D v) p r
  notes_then f g =
      record {
        frame = frame_then f.frame g.frame;
        first = noted_then f.first g.first;
        second = noted_then f.second g.second;
      }

-- the tests are of two positions of entry h, whose node is v and whose positions are s
pub notes_tested : {n c x v s : ℕ} {a b : Bool} {p q : List ℕ} (h second : ℕ) → (v ≡ node_of p n h) × (s ≡ word p n POSITIONS h) → a ≡ bit s 0 → b ≡ bit s second
    → Notes n c x (λ u. (u ≡ v) × (a ≡ true)) (λ u. (u ≡ v) × (b ≡ true)) p q → Notes n c x (OfEntry p n 0 h) (OfEntry p n second h) p q
notes_tested {n} {v = v} {s} {p = p} h second (node, set) e f = notes_as (λ u l. same 0 e) (λ u l. same second f)
  where
    same : {a : Bool} {u : ℕ} (i : ℕ) → a ≡ bit s i → ((u ≡ v) × (a ≡ true)) ↔ OfEntry p n i h u
    same i e = (λ (o, t). (o ∙ node, ap (λ (y : ℕ). bit y i) (sym set) ∙ sym e ∙ t), λ (o, t). (o ∙ sym node, e ∙ ap (λ (y : ℕ). bit y i) set ∙ t))

-- ── What is seen and the list stay ──
module _ {n c x : ℕ} {A B : ℕ → Type 0} {p q : List ℕ} (paired : Paired c) (g : Notes n c x A B p q) where
  low : LEAST * n ≤ c * n
  low = mul-le-mul_right n paired.0

  high : c * n ≤ ABOVE * n
  high = mul-le-mul_right n paired.1

  pub notes_front : (k : ℕ) → k < LEAST * n → get_or q k 0 ≡ get_or p k 0
  notes_front k h = let l = low in g.frame.front k (omega arith)

  pub notes_seen : (v : ℕ) → v < n → word q n SEEN v ≡ word p n SEEN v
  notes_seen v l = notes_front (cell n SEEN v) (omega arith)

  untouched : Untouched n p q
  untouched = let l = low in let h = high in untouched_beside g.frame (omega arith) (omega arith)

  pub notes_node : (k : ℕ) → node_of q n k ≡ node_of p n k
  notes_node = untouched_node untouched

  pub notes_set : (k : ℕ) → word q n POSITIONS k ≡ word p n POSITIONS k
  notes_set = untouched_set untouched

  notes_entry : (i k v : ℕ) → OfEntry q n i k v ↔ OfEntry p n i k v
  notes_entry i k v = (λ (e, h). (e ∙ notes_node k, (untouched_has untouched k i).0 h), λ (e, h). (e ∙ sym (notes_node k), (untouched_has untouched k i).1 h))

  pub notes_work : {len : ℕ} → Work n len p → Work n len q
  notes_work = untouched_work untouched

-- ── The loop ──
-- the entries from a up to h are noted
pub record Noting (n c x second a h len : ℕ) (p₀ p : List ℕ) : Type 0 where
  pub begun : a ≤ h
  pub inside : h ≤ len
  pub work : Work n len p
  pub notes : Notes n c x (OfEntries p₀ n 0 a h) (OfEntries p₀ n second a h) p₀ p

pub noting_none : (n c x second a len : ℕ) (p : List ℕ) → a ≤ len → Work n len p → Noting n c x second a a len p p
noting_none n c x second a len p l w =
    record { begun = omega arith; inside = l; work = w; notes = notes_none n c x p (λ v (k, r, h, e). absurd (omega arith)) (λ v (k, r, h, e). absurd (omega arith)) }

pub noting_step : {n c x second a h len : ℕ} {p₀ p p' : List ℕ} → Paired c → Noting n c x second a h len p₀ p → h < len
    → Notes n c x (OfEntry p n 0 h) (OfEntry p n second h) p p' → Noting n c x second a (h + 1) len p₀ p'
noting_step {n} {c} {x} {second} {a} {h} {len} {p₀} {p} {p'} paired g l f =
    record {
      begun = let b = g.begun in omega arith;
      inside = omega arith;
      work = notes_work paired f g.work;
      notes = notes_as (one 0) (one second) (notes_then g.notes f);
    }
  where
    part : (i v : ℕ) (o : OfEntries p₀ n i a (h + 1) v) → Dec (o.0 ≡ h) → OfEntries p₀ n i a h v ⊎ OfEntry p n i h v
    part i v (k, r, q, e) (yes z) = inr ((notes_entry paired g.notes i h v).1 (subst (λ (y : ℕ). OfEntry p₀ n i y v) z e))
    part i v (k, r, q, e) (no d) = inl (k, r, omega arith, e)

    one : (i v : ℕ) → v < n → (OfEntries p₀ n i a h v ⊎ OfEntry p n i h v) ↔ OfEntries p₀ n i a (h + 1) v
    one i v r = (
      ⊎_elim (λ (k, b, q, e). (k, b, omega arith, e)) (λ e. (h, g.begun, omega arith, (notes_entry paired g.notes i h v).0 e)),
      λ o. part i v o (ℕ_discrete o.0 h),
    )

pub noting_all : {n c x second a h len : ℕ} {p₀ p : List ℕ} → Noting n c x second a h len p₀ p → len ≤ h
    → Notes n c x (OfEntries p₀ n 0 a len) (OfEntries p₀ n second a len) p₀ p
noting_all {n} {c} {x} {second} {a} {h} {len} {p₀} {p} g l =
    let i = g.inside in let e : h ≡ len = omega arith in
    subst (λ (y : ℕ). Notes n c x (OfEntries p₀ n 0 a y) (OfEntries p₀ n second a y) p₀ p) e g.notes
