-- The loop that clears what a walk has seen and found, entry after entry.
use Prim.Native.Nat.{ℕ, suc, ◌+◌, ◌≤◌, ◌<◌}
use mathlib.Core.Path.{◌≡◌, refl, sym, ap, ◌∙◌, subst}
use mathlib.Core.Logic.{◌⊎◌, inl, inr, ⊎_elim, ◌≢◌}
use mathlib.Core.Bool.{false≢true}
use mathlib.Core.List.{List, [], ◌∷◌}
use native.Mathlib.Decide.{ℕ_discrete}
use native.Mathlib.Omega.{arith}
use Rattle.bits.specs.Sets.{bit}
use Rattle.bits.proofs.SetLaws.{bit_none}
use Rattle.layout.specs.Part.{SEEN, FOUND, NODES, Space}
use Rattle.layout.specs.Words.{cell, word, Wrote, Within}
use Rattle.layout.proofs.Frames.{within_frame, within_none, within_then, within_put, frame_same}
use Rattle.reach.specs.Work.{Seen, node_of}
use Rattle.reach.proofs.Clearing.{work_unseen}
use Rattle.rank_sets.specs.Ends.{Steady}
use Rattle.counting.specs.Counting.{Walked, Forgot}

-- both words of node u are cleared
abbrev Gone : ℕ → List ℕ → ℕ → Type 0
Gone n p u = (word p n SEEN u ≡ 0) × (word p n FOUND u ≡ 0)

-- both are as they were, and no entry below h is of u
abbrev Left : ℕ → ℕ → List ℕ → List ℕ → ℕ → Type 0
Left n h p₀ p u = (word p n SEEN u ≡ word p₀ n SEEN u) × (word p n FOUND u ≡ word p₀ n FOUND u) × ((k : ℕ) → k < h → node_of p₀ n k ≢ u)

-- the first h entries are done
pub record Forgetting (n h : ℕ) (p₀ p : List ℕ) : Type 0 where
  pub within : Within n SEEN (suc FOUND) p₀ p
  pub node : (u : ℕ) → u < n → Gone n p u ⊎ Left n h p₀ p u

pub forgetting_none : (n : ℕ) (p : List ℕ) → Forgetting n 0 p p
forgetting_none n p = record { within = within_none p; node = λ u l. inr (refl, refl, λ k h. absurd (omega arith)) }

-- the entries stand behind the columns
forgetting_entry : {n h : ℕ} {p₀ p : List ℕ} → Forgetting n h p₀ p → (k : ℕ) → node_of p n k ≡ node_of p₀ n k
forgetting_entry {n} g k = g.within.behind (cell n NODES k) (omega arith)

pub forgetting_space : {n h len : ℕ} {p₀ p : List ℕ} → Walked n len p₀ → Forgetting n h p₀ p → Space n p
forgetting_space w g = let s = w.work.space in let e = g.within.long in let r = s.room in record { some = s.some; few = s.few; room = omega arith }

-- the next entry is of a node
pub forgetting_inside : {n h len : ℕ} {p₀ p : List ℕ} → Walked n len p₀ → Forgetting n h p₀ p → h < len → node_of p n h < n
forgetting_inside {n} {h} w g l = subst (λ (x : ℕ). x < n) (sym (forgetting_entry g h)) (w.work.nodes h l)

pub forgetting_step : {n h u : ℕ} {p₀ p p₁ p₂ : List ℕ} → Forgetting n h p₀ p → u ≡ node_of p n h → u < n → Wrote ((cell n SEEN u, 0) ∷ []) p p₁
    → Wrote ((cell n FOUND u, 0) ∷ []) p₁ p₂ → Forgetting n (h + 1) p₀ p₂
forgetting_step {n} {h} {u} {p₀} {p} {p₁} {p₂} g e inside s f =
    record {
      within = within_then g.within (within_then (within_put (omega arith) (omega arith) inside s) (within_put (omega arith) (omega arith) inside f));
      node = λ x l. go x l (ℕ_discrete x u);
    }
  where
    later : (x : ℕ) → x ≢ u → ((k : ℕ) → k < h → node_of p₀ n k ≢ x) → (k : ℕ) → k < h + 1 → Dec (k ≡ h) → node_of p₀ n k ≢ x
    later x d other k l (yes z) q = d (sym q ∙ ap (node_of p₀ n) z ∙ sym (e ∙ forgetting_entry g h))
    later x d other k l (no z) q = other k (omega arith) q

    go : (x : ℕ) → x < n → Dec (x ≡ u) → Gone n p₂ x ⊎ Left n (h + 1) p₀ p₂ x
    go x l (yes z) = inl (
      f.other (cell n SEEN x) (omega arith, tt) ∙ ap (λ (y : ℕ). word p₁ n SEEN y) z ∙ s.here.0,
      ap (λ (y : ℕ). word p₂ n FOUND y) z ∙ f.here.0,
    )
    go x l (no d) =
        let a : word p₂ n SEEN x ≡ word p n SEEN x = f.other (cell n SEEN x) (omega arith, tt) ∙ s.other (cell n SEEN x) (omega arith, tt) in
        let b : word p₂ n FOUND x ≡ word p n FOUND x = f.other (cell n FOUND x) (omega arith, tt) ∙ s.other (cell n FOUND x) (omega arith, tt) in
        ⊎_elim (λ (y, z). inl (a ∙ y, b ∙ z)) (λ (y, z, other). inr (a ∙ y, b ∙ z, λ k r. later x d other k r (ℕ_discrete k h))) (g.node x l)

pub forgetting_all : {n h len : ℕ} {p₀ p : List ℕ} → Walked n len p₀ → Forgetting n h p₀ p → len ≤ h → Forgot n p₀ p
forgetting_all {n} {h} {len} {p₀} {p} w g end =
    record {
      steady = steady;
      clean = record {
        work = work_unseen (forgetting_space w g) (λ u j l b s. unseen u j l b s (g.node u l));
        unfound = λ u l. ⊎_elim (λ (y, z). z) (λ (y, z, none). ⊎_elim (λ e. z ∙ e) (λ (k, r, e). absurd (none k (omega arith) e)) (w.listed u l)) (g.node u l);
      };
    }
  where
    steady : Steady n p₀ p
    steady = let f = within_frame g.within in record { held = record { middle = frame_same (λ k r. inl r.1) f }; answers = frame_same (λ k r. inl (omega arith)) f }

    unseen : (u j : ℕ) → u < n → j < 16 → Seen p n u j → ¬ (Gone n p u ⊎ Left n h p₀ p u)
    unseen u j l b s (inl (z, _)) = false≢true (sym (bit_none j) ∙ ap (λ (x : ℕ). bit x j) (sym z) ∙ s)
    unseen u j l b s (inr (e, _, none)) =
        let (k, r, q, _) = w.work.listed u j l b (ap (λ (x : ℕ). bit x j) (sym e) ∙ s) in
        none k (omega arith) q
