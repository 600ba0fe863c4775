-- Warshall's closure: what is related by way of positions below k only.
use Prim.Native.Nat.{ℕ, zero, suc, ◌+◌, ◌≤◌, ◌<◌}
use mathlib.Core.Path.{◌≡◌, refl, sym, subst}
use mathlib.Core.Logic.{◌⊎◌, inl, inr, ◌↔◌}
use mathlib.Core.List.{List}
use native.Mathlib.Nat.{eq-or-lt_of_le, le_of_suc-le-suc, not-suc-le-zero}
use native.Mathlib.Numerals.{add-one}
use native.Mathlib.Omega.{arith}
use Rattle.layout.proofs.Frames.{frame_none, frame_then}
use Rattle.matrices.specs.Matrices.{Related, Redrawn, Drawing}
use Rattle.closures.specs.Closures.{Chain, Reflexive, Through}
use Rattle.closures.proofs.Chains.{chain_one, chain_then}

unfoldable pub Via : (ℕ → ℕ → Type 0) → ℕ → ℕ → ℕ → Type 0
Via A zero i j = A i j
Via A (suc k) i j = Through (Via A k) k i j

module _ (A : ℕ → ℕ → Type 0) where
  -- to k and on from k, one of the two by way of k
  to_last : (k i : ℕ) → Via A (suc k) i k → Via A k i k
  unfolding Via
  to_last k i (inl v) = v
  to_last k i (inr (v, w)) = v

  from_last : (k j : ℕ) → Via A (suc k) k j → Via A k k j
  unfolding Via
  from_last k j (inl v) = v
  from_last k j (inr (v, w)) = w

  -- joined at a position below k
  abbrev Joins : ℕ → Type 0
  Joins k = (i m j : ℕ) → m < k → Via A k i m → Via A k m j → Via A k i j

  join_more : (k i m j : ℕ) → Joins k → (m ≡ k) ⊎ (m < k) → Via A (suc k) i m → Via A (suc k) m j → Via A (suc k) i j
  unfolding Via
  join_more k i m j f (inl e) v w = inr (to_last k i (subst (λ (x : ℕ). Via A (suc k) i x) e v), from_last k j (subst (λ (x : ℕ). Via A (suc k) x j) e w))
  join_more k i m j f (inr l) (inl v) (inl w) = inl (f i m j l v w)
  join_more k i m j f (inr l) (inl v) (inr (a, b)) = inr (f i m k l v a, b)
  join_more k i m j f (inr l) (inr (a, b)) (inl w) = inr (a, f k m j l b w)
  join_more k i m j f (inr l) (inr (a, b)) (inr (c, d)) = inr (a, d)

  joins : (k : ℕ) → Joins k
  joins zero i m j h v w = absurd (not-suc-le-zero h)
  joins (suc k) i m j h v w = join_more k i m j (joins k) (eq-or-lt_of_le (le_of_suc-le-suc h)) v w

  base : (k i j : ℕ) → A i j → Via A k i j
  unfolding Via
  base zero i j a = a
  base (suc k) i j a = inl (base k i j a)

  -- where A is B and each position with itself, by way of any position is a chain of B
  module _ (B : ℕ → ℕ → Type 0) (start : (i j : ℕ) → i < 16 → j < 16 → A i j ↔ Reflexive B i j) where
    one_chain : (i j : ℕ) → j < 16 → Reflexive B i j → Chain B i j
    one_chain i j h (inl e) = subst (λ (x : ℕ). Chain B i x) e Chain.none
    one_chain i j h (inr a) = chain_one h a

    via_chain : (k i j : ℕ) → i < 16 → j < 16 → k ≤ 16 → Via A k i j → Chain B i j
    unfolding Via
    via_chain zero i j h l few v = one_chain i j l ((start i j h l).0 v)
    via_chain (suc k) i j h l few (inl v) = via_chain k i j h l (omega arith) v
    via_chain (suc k) i j h l few (inr (v, w)) = chain_then (via_chain k i k h (omega arith) (omega arith) v) (via_chain k k j (omega arith) l (omega arith) w)

    chain_via : (i j : ℕ) → i < 16 → Chain B i j → Via A 16 i j
    chain_via i j h Chain.none = base 16 i i ((start i i h h).1 (inl refl))
    chain_via i k h (Chain.more {j = j} l a c) = joins 16 i j k l (base 16 i j ((start i j h l).1 (inr a))) (chain_via j k l c)

-- ── The loop of `close` ──
-- only this matrix is drawn, and it is what is related by way of positions below k
pub record Closing (at k : ℕ) (p p' : List ℕ) : Type 0 where
  pub only : Redrawn at p p'
  pub via : (i j : ℕ) → i < 16 → j < 16 → Related p' at i j ↔ Via (Related p at) k i j

pub closing_none : (at : ℕ) (p : List ℕ) → Closing at 0 p p
unfolding Via
closing_none at p = record { only = frame_none p; via = λ i j h l. (λ a. a, λ a. a) }

pub closing_step : {at k : ℕ} {p q r : List ℕ} → k < 16 → Closing at k p q → Drawing (Through (Related q at) k) at 16 q r → Closing at (k + 1) p r
unfolding Via
closing_step {at} {k} {p} {q} {r} few c d = record {
  only = frame_then c.only d.frame;
  via = λ i j h l. subst (λ (x : ℕ). Related r at i j ↔ Via (Related p at) x i j) (sym (add-one k)) (λ e. to i j h l ((d.done i j h l).0 e), λ v. (d.done i j h l).1 (from i j h l v));
}
  where
    to : (i j : ℕ) → i < 16 → j < 16 → Through (Related q at) k i j → Through (Via (Related p at) k) k i j
    to i j h l (inl a) = inl ((c.via i j h l).0 a)
    to i j h l (inr (a, b)) = inr ((c.via i k h few).0 a, (c.via k j few l).0 b)

    from : (i j : ℕ) → i < 16 → j < 16 → Through (Via (Related p at) k) k i j → Through (Related q at) k i j
    from i j h l (inl v) = inl ((c.via i j h l).1 v)
    from i j h l (inr (v, w)) = inr ((c.via i k h few).1 v, (c.via k j few l).1 w)

-- from a matrix that has each position with itself
pub closing_all : {at k : ℕ} {p q r : List ℕ} → k ≡ 16 → Drawing (Reflexive (Related p at)) at 16 p q → Closing at k q r
    → Redrawn at p r × ((i j : ℕ) → i < 16 → j < 16 → Related r at i j ↔ Chain (Related p at) i j)
closing_all {at} {k} {p} {q} {r} e d c =
    let f : Closing at 16 q r = subst (λ (x : ℕ). Closing at x q r) e c in (
      frame_then d.frame f.only,
      λ i j h l. (
        λ a. via_chain (Related q at) (Related p at) d.done 16 i j h l (omega arith) ((f.via i j h l).0 a),
        λ b. (f.via i j h l).1 (chain_via (Related q at) (Related p at) d.done i j h b),
      ),
    )
