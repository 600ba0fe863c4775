-- The sweeps by rising and by falling rank, and the ranges that they give.
use Prim.Native.Nat.{ℕ, suc, ◌+◌, ◌*◌, ◌≤◌, ◌<◌}
use mathlib.Core.Path.{◌≡◌, sym, ap, ◌∙◌, subst}
use mathlib.Core.Logic.Iff
use mathlib.Core.Logic.{◌⊎◌, inl, inr, ⊎_elim, ◌↔◌, ◌≢◌}
use mathlib.Core.List.{List}
use native.Mathlib.Decide.{dec_lt}
use native.Mathlib.Nat.{mul-le-mul_right}
use native.Mathlib.Omega.{arith}
use lib.ListN.{get_or}
use Rattle.xpath.specs.Syntax.{Op, eq}
use Rattle.layout.specs.Groups.{FIRST, NEXT, MARKED}
use Rattle.layout.specs.Sweeps.{LEAST, ABOVE}
use Rattle.layout.specs.Table.{RANK}
use Rattle.layout.specs.Words.{cell, word, Within}
use Rattle.layout.proofs.Frames.{within_frame, frame_same}
use Rattle.rule_parts.specs.Kinds.{operator}
use Rattle.rule_parts.specs.declared.kinds.Operator.{Operator}
use Rattle.machine.specs.declared.Machine.{Machine}
use Rattle.machine.specs.Walks.{Meets}
use Rattle.buckets.specs.Buckets.{Buckets}
use Rattle.buckets.proofs.Least.{buckets_kept}
use Rattle.rank_sets.specs.declared.ranges.Range.{Range}
use Rattle.rank_sets.specs.Ends.{Held}
use Rattle.rank_sets.specs.Ranges.{Ranged, Across}
use Rattle.rank_sets.proofs.Ranged.{across_some}
use Rattle.rank_sets.proofs.Steady.{held_then, held_word}
use Rattle.plain.specs.Plain.{Answered}
use Rattle.plain.proofs.Answering.{answered_from}
use Rattle.plain.proofs.Steady.{steady_spared}
use Rattle.plain.proofs.Walks.{stops_same, meets_same}
use Rattle.reach.specs.Work.{Work, Spared}
use Rattle.reach.proofs.Adding.{spared_front, spared_aside}
use Rattle.retracing.specs.Backward.{LinkedBothWays}
use Rattle.retracing.specs.Notes.{Seeded}
use Rattle.backward.specs.Sweeps.{range_of, Extreme, Blank, Blanked, StopsRanked, Risen, Fallen, Ranges}
use Rattle.retracing.proofs.Linked.{linked_same}
use Rattle.backward.proofs.Sweeping.{extreme_as, Sweeping, sweeping_none, sweeping_step, sweeping_all}

-- ── By rising rank: those of the ranks below r are done ──
abbrev pub Rising : Machine → ℕ → ℕ → ℕ → List ℕ → List ℕ → Type 0
Rising m n r len p₀ p = Sweeping (λ a b. a ≤ b) 65_535 (word p₀ n RANK) m n LEAST (λ w. word p₀ n RANK w < r) len p₀ p

pub rising_none : {m : Machine} {n : ℕ} {p : List ℕ} → Blank n LEAST 65_535 p → LinkedBothWays n p → Rising m n 0 0 p p
rising_none b linked = sweeping_none b linked (λ w l d. absurd (omega arith))

pub rising_step : {m : Machine} {n r len len' : ℕ} {p₀ p p' : List ℕ} → m.second < 16 → Work n 0 p₀ → Rising m n r len p₀ p → Seeded m n (λ u. word p n RANK u ≡ r) LEAST r len len' p p'
    → Rising m n (r + 1) len' p₀ p'
rising_step {m} {n} {r} {p₀ = p₀} {p = p} small empty s g =
    sweeping_step small empty s g (λ w l e. sym (rank w l) ∙ e) (omega arith) (λ w u l h d e. let z = rank u h in omega arith) both
  where
    rank : (w : ℕ) → w < n → word p n RANK w ≡ word p₀ n RANK w
    rank w l = spared_front s.added.spared (cell n RANK w) (omega arith)

    part : (w : ℕ) → w < n → word p₀ n RANK w < r + 1 → Dec (word p₀ n RANK w < r) → (word p₀ n RANK w < r) ⊎ (word p n RANK w ≡ r)
    part w l h (yes k) = inl k
    part w l h (no k) = let z = rank w l in inr (omega arith)

    both : (w : ℕ) → w < n → ((word p₀ n RANK w < r) ⊎ (word p n RANK w ≡ r)) ↔ (word p₀ n RANK w < r + 1)
    both w l = (⊎_elim (λ k. omega arith) (λ e. let z = rank w l in omega arith), λ h. part w l h (dec_lt (word p₀ n RANK w) r))

pub rising_all : {m : Machine} {n r len : ℕ} {p₀ p : List ℕ} → r ≡ n → Rising m n r len p₀ p → Risen m n p₀ p
rising_all e s = sweeping_all s (λ w h. (λ d. omega arith, λ k. omega arith))

-- ── By falling rank: those of the ranks from r on are done ──
abbrev pub Falling : Machine → ℕ → ℕ → ℕ → List ℕ → List ℕ → Type 0
Falling m n r len p₀ p = Sweeping (λ a b. b ≤ a) 0 (λ w. suc (word p₀ n RANK w)) m n ABOVE (λ w. (r ≤ word p₀ n RANK w) × (word p₀ n RANK w < n)) len p₀ p

pub falling_none : {m : Machine} {n : ℕ} {p : List ℕ} → Blank n ABOVE 0 p → LinkedBothWays n p → Falling m n n 0 p p
falling_none b linked = sweeping_none b linked (λ w l (d, k). absurd (omega arith))

-- s is the rank after r
pub falling_step : {m : Machine} {n r s len len' : ℕ} {p₀ p p' : List ℕ} → m.second < 16 → Work n 0 p₀ → Falling m n s len p₀ p → s ≡ r + 1 → r < n
    → Seeded m n (λ u. word p n RANK u ≡ r) ABOVE (r + 1) len len' p p' → Falling m n r len' p₀ p'
falling_step {m} {n} {r} {s} {p₀ = p₀} {p = p} small empty f after below g =
    sweeping_step small empty f g (λ w l e. let z = rank w l in omega arith) (omega arith) (λ w u l h (d, k) e. let z = rank u h in omega arith) both
  where
    rank : (w : ℕ) → w < n → word p n RANK w ≡ word p₀ n RANK w
    rank w l = spared_front f.added.spared (cell n RANK w) (omega arith)

    part : (w : ℕ) → w < n → r ≤ word p₀ n RANK w → word p₀ n RANK w < n → Dec (word p₀ n RANK w < s) → ((s ≤ word p₀ n RANK w) × (word p₀ n RANK w < n)) ⊎ (word p n RANK w ≡ r)
    part w l h i (yes k) = let z = rank w l in inr (omega arith)
    part w l h i (no k) = inl (omega arith, i)

    both : (w : ℕ) → w < n → (((s ≤ word p₀ n RANK w) × (word p₀ n RANK w < n)) ⊎ (word p n RANK w ≡ r)) ↔ ((r ≤ word p₀ n RANK w) × (word p₀ n RANK w < n))
    both w l = (⊎_elim (λ (k, i). (omega arith, i)) (λ e. let z = rank w l in (omega arith, omega arith)), λ (h, i). part w l h i (dec_lt (word p₀ n RANK w) s))

pub falling_all : {m : Machine} {n r len : ℕ} {p₀ p : List ℕ} → Falling m n r len p₀ p → r ≤ 0 → Fallen m n p₀ p
falling_all s l = sweeping_all s (λ w h. (λ (d, k). k, λ k. (omega arith, k)))

-- ── What the sweeps leave ──
pub spared_buckets : {n : ℕ} (c : ℕ) {p q : List ℕ} → LEAST ≤ c → Spared n c p q → Buckets n p → Buckets n q
spared_buckets {n} c l s =
    let low : LEAST * n ≤ c * n = mul-le-mul_right n l in
    buckets_kept (λ v h. spared_front s (cell n RANK v) (omega arith)) (λ r h. spared_aside s (cell n FIRST r) (omega arith) (omega arith)) (λ v h. spared_aside s (cell n NEXT v) (omega arith) (omega arith))

-- what a sweep asks of the words before its columns
abbrev pub Ready : ℕ → List ℕ → Type 0
Ready n p = LinkedBothWays n p × Buckets n p

pub spared_ready : {n : ℕ} (c : ℕ) {p q : List ℕ} → LEAST ≤ c → Spared n c p q → Ready n p → Ready n q
spared_ready c l s (linked, buckets) = (linked_same (λ k l h. spared_front s k (omega arith)) linked, spared_buckets c l s buckets)

-- ── The ranges ──
ranged_of : {n : ℕ} {E : ℕ → Type 0} {rank : ℕ → ℕ} (a : Range) → Extreme (λ x y. x ≤ y) 65_535 n rank E a.least → Extreme (λ x y. y ≤ x) 0 n (λ w. suc (rank w)) E a.above → Ranged n E rank a
ranged_of {n} {E} {rank} a f g =
    record {
      low = λ w l e. ⊎_elim (λ (z, none). absurd (none w l e)) (λ (z, first). first w l e) f;
      least = ⊎_elim (λ (z, none). inl z) (λ (z, first). inr z) f;
      high = λ w l e. ⊎_elim (λ (z, none). absurd (none w l e)) (λ (z, first). first w l e) g;
      greatest = ⊎_elim (λ (z, none). inl z) (λ (z, first). inr z) g;
    }

-- the same keys
extreme_keys : (Order : ℕ → ℕ → Type 0) (blank n : ℕ) (key key' : ℕ → ℕ) {D : ℕ → Type 0} (x : ℕ) → ((w : ℕ) → w < n → key' w ≡ key w) → Extreme Order blank n key D x → Extreme Order blank n key' D x
extreme_keys Order blank n key key' x same (inl e) = inl e
extreme_keys Order blank n key key' x same (inr ((w, l, d, e), first)) = inr ((w, l, d, same w l ∙ e), λ u h k. subst (λ y. Order x y) (sym (same u h)) (first u h k))

-- the nodes that have a rank where a path ends stay
stops_ranked : {m : Machine} {n i v : ℕ} {p q : List ℕ} → Held n p q → v < n → (w : ℕ) → w < n → StopsRanked m n q i v w ↔ StopsRanked m n p i v w
stops_ranked held l w r = let e = held_word held RANK w (omega arith) (omega arith) r in (λ (s, k). ((stops_same held l).1 s, omega arith), λ (s, k). ((stops_same held l).0 s, omega arith))

module _ {m : Machine} {n : ℕ} {p p₁ p₂ p₃ : List ℕ} (a : Blanked n LEAST 65_535 p p₁) (b : Risen m n p₁ p₂) (c : Blanked n ABOVE 0 p₂ p₃) where
  -- what the second sweep asks
  pub ready_again : Ready n p → Ready n p₃
  ready_again r = spared_ready ABOVE (omega arith) c.spared (spared_ready LEAST (omega arith) b.spared (spared_ready LEAST (omega arith) a.spared r))

module _ {m : Machine} {n : ℕ} {p p₁ p₂ p₃ p₄ : List ℕ} (a : Blanked n LEAST 65_535 p p₁) (b : Risen m n p₁ p₂) (c : Blanked n ABOVE 0 p₂ p₃) (d : Fallen m n p₃ p₄) where
  held₁ : Held n p p₁
  held₁ = (steady_spared a.spared).held

  held₃ : Held n p p₃
  held₃ = held_then (held_then held₁ (steady_spared b.spared).held) (steady_spared c.spared).held

  -- the least ranks stay while the greatest are found
  kept : (k : ℕ) → LEAST * n ≤ k → k < ABOVE * n → get_or p₄ k 0 ≡ get_or p₂ k 0
  kept k l h = spared_aside d.spared k (omega arith) h ∙ spared_aside c.spared k (omega arith) h

  module _ (i v : ℕ) (l : v < n) where
    least : (x y : ℕ) → y ≡ x → Extreme (λ a b. a ≤ b) 65_535 n (word p₁ n RANK) (StopsRanked m n p₁ i v) x → Extreme (λ a b. a ≤ b) 65_535 n (word p n RANK) (StopsRanked m n p i v) y
    least x y e f =
        subst (λ z. Extreme (λ a b. a ≤ b) 65_535 n (word p n RANK) (StopsRanked m n p i v) z) (sym e)
        (extreme_keys (λ a b. a ≤ b) 65_535 n (word p₁ n RANK) (word p n RANK) x (λ w r. sym (held_word held₁ RANK w (omega arith) (omega arith) r))
        (extreme_as (λ a b. a ≤ b) 65_535 n (word p₁ n RANK) x (stops_ranked held₁ l) f))

    above : (x : ℕ) → Extreme (λ a b. b ≤ a) 0 n (λ w. suc (word p₃ n RANK w)) (StopsRanked m n p₃ i v) x → Extreme (λ a b. b ≤ a) 0 n (λ w. suc (word p n RANK w)) (StopsRanked m n p i v) x
    above x f =
        extreme_keys (λ a b. b ≤ a) 0 n (λ w. suc (word p₃ n RANK w)) (λ w. suc (word p n RANK w)) x (λ w r. ap suc (sym (held_word held₃ RANK w (omega arith) (omega arith) r)))
        (extreme_as (λ a b. b ≤ a) 0 n (λ w. suc (word p₃ n RANK w)) x (stops_ranked held₃ l) f)

  pub ranges_all : Ranges m n p p₄
  ranges_all =
      record {
        held = held_then held₃ (steady_spared d.spared).held;
        first = λ v l. ranged_of (range_of p₄ n 0 v) (least 0 v l _ _ (kept (cell n LEAST v) (omega arith) (omega arith)) (b.first v l)) (above 0 v l _ (d.first v l));
        second = λ v l. ranged_of (range_of p₄ n 1 v) (least m.second v l _ _ (kept (cell n (LEAST + 1) v) (omega arith) (omega arith)) (b.second v l)) (above m.second v l _ (d.second v l));
      }

-- ── The answers ──
-- the buckets stand behind what a walk goes by
pub bucketed_held : {n : ℕ} {p q : List ℕ} → Within n FIRST MARKED p q → Held n p q
bucketed_held w = record { middle = frame_same (λ k h. inl (omega arith)) (within_frame w) }

-- p₁ is the part with the buckets, and p₂ the part with the ranges
pub order_answered : {m : Machine} {n : ℕ} {o : Operator} {p p₁ p₂ p₃ : List ℕ} → n ≤ 4096 → Within n FIRST MARKED p p₁ → Ranges m n p₁ p₂
    → Answered n (λ v. Across o (range_of p₂ n 0 v) (range_of p₂ n 1 v)) p₂ p₃ → (q : Op) → q ≢ eq → o ≡ operator q → Answered n (Meets m n p q) p p₃
order_answered {m} {n} {o} {p} {p₁} {p₂} {p₃} few w g a q d e =
    answered_from (g.held.middle.long ∙ w.long) tells a
  where
    held : Held n p p₁
    held = bucketed_held w

    tells : (v : ℕ) → v < n → Across o (range_of p₂ n 0 v) (range_of p₂ n 1 v) ↔ Meets m n p q v
    tells v l =
        subst (λ x. Across x (range_of p₂ n 0 v) (range_of p₂ n 1 v) ↔ Meets m n p q v) (sym e)
        (Iff.trans (across_some few (g.first v l) (g.second v l) q d) (Iff.symm (meets_same held q v l)))
