-- Ranges of ranks: widened by one more node, and what they say of two sets of nodes.
use Prim.Native.Nat.{ℕ, suc, min, max, ◌+◌, ◌≤◌, ◌<◌}
use mathlib.Core.Path.{◌≡◌, refl, sym, ap, ◌∙◌, subst}
use mathlib.Core.Logic.{◌⊎◌, inl, inr, ⊎_elim, ◌↔◌, ◌≢◌}
use native.Mathlib.Decide.{ℕ_discrete, dec_lt}
use native.Mathlib.Omega.{arith}
use Rattle.xpath.specs.Syntax.{Op, eq, ne, lt, le, gt, ge}
use Rattle.rule_parts.specs.Kinds.{operator}
use Rattle.rule_parts.specs.declared.kinds.Operator.TheVariants.{Unequal}
use Rattle.machine.specs.Walks.{Signed}
use Rattle.rank_sets.specs.declared.ranges.Range.{Range}
use Rattle.rank_sets.specs.Ranges.{Some, WithRank, Ranged, Under, Across}

module _ (E : ℕ → Type 0) (rank : ℕ → ℕ) where
  pub ranged_none : Ranged 0 E rank (record { least = 65_535; above = 0 })
  ranged_none = record { low = λ w l. absurd (omega arith); least = inl refl; high = λ w l. absurd (omega arith); greatest = inl refl }

module _ {E : ℕ → Type 0} {rank : ℕ → ℕ} {i : ℕ} {a : Range} (g : Ranged i E rank a) where
  more : {B : ℕ → Type 0} → Some i E B → Some (suc i) E B
  more (w, l, e, b) = (w, (omega arith), e, b)

  pub ranged_skip : ¬ E i → Ranged (suc i) E rank a
  ranged_skip f =
      record {
        low = λ w l e. g.low w (before w l e (ℕ_discrete w i)) e;
        least = go g.least;
        high = λ w l e. g.high w (before w l e (ℕ_discrete w i)) e;
        greatest = go g.greatest;
      }
    where
      before : (w : ℕ) → w < suc i → E w → Dec (w ≡ i) → w < i
      before w l e (yes d) = absurd (f (subst E d e))
      before w l e (no d) = omega arith

      go : {C : Type 0} {B : ℕ → Type 0} → C ⊎ Some i E B → C ⊎ Some (suc i) E B
      go (inl c) = inl c
      go (inr s) = inr (more s)

  -- r is the rank of i
  pub ranged_with : (b : Range) (r : ℕ) → E i → r ≡ rank i
      → b.least ≡ min a.least r → b.above ≡ max a.above (r + 1) → Ranged (suc i) E rank b
  ranged_with b r e q s t =
      record {
        low = λ w k f. low w k f (ℕ_discrete w i);
        least = least (lower (dec_lt a.least r)) g.least;
        high = λ w k f. high w k f (ℕ_discrete w i);
        greatest = greatest (upper (dec_lt a.above (r + 1))) g.greatest;
      }
    where
      low : (w : ℕ) → w < suc i → E w → Dec (w ≡ i) → b.least ≤ rank w
      low w k f (yes z) = let y = ap rank z in omega arith
      low w k f (no z) = let y = g.low w (omega arith) f in omega arith

      high : (w : ℕ) → w < suc i → E w → Dec (w ≡ i) → rank w < b.above
      high w k f (yes z) = let y = ap rank z in omega arith
      high w k f (no z) = let y = g.high w (omega arith) f in omega arith

      lower : Dec (a.least < r) → (b.least ≡ a.least) ⊎ (b.least ≡ r)
      lower (yes k) = inl (omega arith)
      lower (no k) = inr (omega arith)

      upper : Dec (a.above < r + 1) → (b.above ≡ a.above) ⊎ (b.above ≡ r + 1)
      upper (yes k) = inr (omega arith)
      upper (no k) = inl (omega arith)

      least : (b.least ≡ a.least) ⊎ (b.least ≡ r) → (a.least ≡ 65_535) ⊎ Some i E (λ w. rank w ≡ a.least) → (b.least ≡ 65_535) ⊎ Some (suc i) E (λ w. rank w ≡ b.least)
      least (inl z) (inl y) = inl (z ∙ y)
      least (inl z) (inr (w, k, f, y)) = inr (w, (omega arith), f, y ∙ sym z)
      least (inr z) y = inr (i, (omega arith), e, omega arith)

      greatest : (b.above ≡ a.above) ⊎ (b.above ≡ r + 1) → (a.above ≡ 0) ⊎ Some i E (λ w. suc (rank w) ≡ a.above) → (b.above ≡ 0) ⊎ Some (suc i) E (λ w. suc (rank w) ≡ b.above)
      greatest (inl z) (inl y) = inl (z ∙ y)
      greatest (inl z) (inr (w, k, f, y)) = inr (w, (omega arith), f, y ∙ sym z)
      greatest (inr z) y = inr (i, (omega arith), e, omega arith)

-- the same nodes and the same ranks
pub ranged_same : {n : ℕ} {E F : ℕ → Type 0} {rank rank' : ℕ → ℕ} {a : Range}
    → ((w : ℕ) → w < n → E w ↔ F w) → ((w : ℕ) → w < n → rank' w ≡ rank w) → Ranged n (WithRank n rank E) rank a → Ranged n (WithRank n rank' F) rank' a
ranged_same {n} {E} {F} {rank} {rank'} {a} s r g =
    record {
      low = λ w l e. subst (λ x. a.least ≤ x) (sym (r w l)) (g.low w l (had w l e));
      least = ⊎_elim (λ z. inl z) (λ (w, l, e, z). inr (w, l, has w l e, r w l ∙ z)) g.least;
      high = λ w l e. subst (λ x. x < a.above) (sym (r w l)) (g.high w l (had w l e));
      greatest = ⊎_elim (λ z. inl z) (λ (w, l, e, z). inr (w, l, has w l e, ap suc (r w l) ∙ z)) g.greatest;
    }
  where
    has : (w : ℕ) → w < n → WithRank n rank E w → WithRank n rank' F w
    has w l (e, k) = let q = r w l in ((s w l).0 e, omega arith)

    had : (w : ℕ) → w < n → WithRank n rank' F w → WithRank n rank E w
    had w l (f, k) = let q = r w l in ((s w l).1 f, omega arith)

-- no rank lies below 0
pub ranged_empty : {n : ℕ} {E : ℕ → Type 0} {rank : ℕ → ℕ} {a : Range} → Ranged n E rank a → a.above ≡ 0 → (w : ℕ) → w < n → ¬ E w
ranged_empty g z w l e = let h = g.high w l e in omega arith

-- ── Two sets of nodes ──
abbrev Pair : ℕ → (ℕ → Type 0) → (ℕ → Type 0) → (ℕ → ℕ → Type 0) → Type 0
Pair n E F R = (w u : ℕ) × (w < n) × (u < n) × E w × F u × R w u

module _ {n : ℕ} {rank : ℕ → ℕ} (few : n ≤ 4096) where
  pub ranged_fits : {E : ℕ → Type 0} {a : Range} → Ranged n (WithRank n rank E) rank a → a.least < 65536
  ranged_fits g = ⊎_elim (λ e. omega arith) (λ (w, l, (e, r), q). omega arith) g.least

  module _ {E F : ℕ → Type 0} {a b : Range} (g : Ranged n (WithRank n rank E) rank a) (h : Ranged n (WithRank n rank F) rank b) where
    -- the least of the first and the greatest of the second
    extremes : a.least < b.above → Pair n E F (λ w u. (rank w < n) × (rank u < n) × (rank w ≡ a.least) × (suc (rank u) ≡ b.above))
    extremes k =
        let (u, r, (f, j), y) = ⊎_elim (λ z. absurd (omega arith)) (λ s. s) h.greatest in
        let (w, l, (e, i), x) = ⊎_elim (λ z. absurd (omega arith)) (λ s. s) g.least in
        (w, u, l, r, e, f, (i, j, x, y))

    under_some : Under a b ↔ Pair n E F (λ w u. Signed lt n (rank w) (rank u))
    under_some = (
      λ k. let (w, u, l, r, e, f, (i, j, x, y)) = extremes (omega arith) in (w, u, l, r, e, f, (i, j, omega arith)),
      λ (w, u, l, r, e, f, (i, j, c)). let x = g.low w l (e, i) in let y = h.high u r (f, j) in omega arith,
    )

    most_some : (a.least < b.above) ↔ Pair n E F (λ w u. Signed le n (rank w) (rank u))
    most_some = (
      λ k. let (w, u, l, r, e, f, (i, j, x, y)) = extremes k in (w, u, l, r, e, f, (i, j, omega arith)),
      λ (w, u, l, r, e, f, (i, j, c)). let x = g.low w l (e, i) in let y = h.high u r (f, j) in omega arith,
    )

  exchanged : {E F : ℕ → Type 0} {R : ℕ → ℕ → Type 0} → Pair n F E (λ w u. (rank w < n) × (rank u < n) × R w u) → Pair n E F (λ w u. (rank w < n) × (rank u < n) × R u w)
  exchanged (w, u, l, r, f, e, (i, j, c)) = (u, w, r, l, e, f, (j, i, c))

  module _ {E F : ℕ → Type 0} {a b : Range} (g : Ranged n (WithRank n rank E) rank a) (h : Ranged n (WithRank n rank F) rank b) where
    differ : Across Unequal a b ↔ Pair n E F (λ w u. Signed ne n (rank w) (rank u))
    differ = (to, λ (w, u, l, r, e, f, (i, j, c)). from w u l r e f i j c (dec_lt (rank w) (rank u)))
      where
        to : Across Unequal a b → Pair n E F (λ w u. Signed ne n (rank w) (rank u))
        to (inl k) = let (w, u, l, r, e, f, (i, j, c)) = (under_some g h).0 k in (w, u, l, r, e, f, (i, j, λ q. absurd (omega arith)))
        to (inr k) = let (u, w, r, l, f, e, (j, i, c)) = (under_some h g).0 k in (w, u, l, r, e, f, (i, j, λ q. absurd (omega arith)))

        from : (w u : ℕ) → w < n → u < n → E w → F u → rank w < n → rank u < n → rank w ≢ rank u → Dec (rank w < rank u) → Across Unequal a b
        from w u l r e f i j c (yes k) = inl ((under_some g h).1 (w, u, l, r, e, f, (i, j, k)))
        from w u l r e f i j c (no k) = inr ((under_some h g).1 (u, w, r, l, f, e, (j, i, omega arith)))

    pub across_some : (q : Op) → q ≢ eq → Across (operator q) a b ↔ Pair n E F (λ w u. Signed q n (rank w) (rank u))
    across_some eq d = absurd (d refl)
    across_some ne d = differ
    across_some lt d = under_some g h
    across_some le d = most_some g h
    across_some gt d = (λ k. exchanged ((under_some h g).0 k), λ s. (under_some h g).1 (exchanged s))
    across_some ge d = (λ k. exchanged ((most_some h g).0 k), λ s. (most_some h g).1 (exchanged s))
