-- The loop of `predecessors`: the positions below i are decided.
use Prim.Native.Nat.{ℕ, ◌+◌, ◌≤◌, ◌<◌}
use mathlib.Core.Path.{◌≡◌, sym, ap, ◌∙◌, subst}
use mathlib.Core.Bool.{true, false≢true}
use mathlib.Core.Logic.{◌⊎◌, inl, inr, ⊎_elim, ◌↔◌}
use mathlib.Core.List.{List}
use native.Mathlib.Decide.{ℕ_discrete}
use native.Mathlib.Omega.{arith}
use lib.Count.{count_trailing_zeros}
use lib.ListN.{get_or}
use borrow.Author.Tests.{eqb-true, eq-eqb}
use Rattle.bits.specs.Sets.{bit, or, and, is}
use Rattle.bits.proofs.SetLaws.{bit_none}
use Rattle.matrices.specs.Matrices.{Exactly}
use Rattle.matrices.proofs.Members.{or_cases, or_left, or_right, and_both, and_parts, lowest}
use Rattle.retracing.specs.Backward.{Common, Precedes, Sources}

-- ── One row ──
module _ (a b x : ℕ) (meet : (j : ℕ) → bit x j ≡ and (bit a j) (bit b j)) where
  -- x is what the two sets have in common
  pub common_none : x ≡ 0 → ¬ Common a b
  common_none e (j, l, f, g) = false≢true (sym (bit_none j) ∙ ap (λ (y : ℕ). bit y j) (sym e) ∙ meet j ∙ and_both (bit a j) (bit b j) f g)

  pub common_some : 0 < x → x < 65_536 → Common a b
  common_some h l =
      let (k, e) = lowest 16 x h l in let (f, g) = and_parts (bit a _) (bit b _) (sym (meet (count_trailing_zeros 16 x)) ∙ e) in
      (count_trailing_zeros 16 x, k, f, g)

module _ (r i : ℕ) {A : Type 0} where
  pub row_skipped : ¬ A → (k : ℕ) → (bit r k ≡ true) ↔ ((bit r k ≡ true) ⊎ ((k ≡ i) × A))
  row_skipped f k = (inl, ⊎_elim (λ e. e) (λ h. absurd (f h.1)))

  pub row_taken : A → (s : ℕ) → ((k : ℕ) → bit s k ≡ or (is k i) (bit r k)) → (k : ℕ) → (bit s k ≡ true) ↔ ((bit r k ≡ true) ⊎ ((k ≡ i) × A))
  row_taken a s insert k = (
    λ e. ⊎_elim (λ q. inr (eqb-true k i q, a)) inl (or_cases (is k i) (bit r k) (sym (insert k) ∙ e)),
    ⊎_elim (λ e. insert k ∙ or_right (is k i) (bit r k) e) (λ h. insert k ∙ or_left (is k i) (bit r k) (eq-eqb k i h.0)),
  )

-- ── The loop ──
pub record Preceding (rows : List ℕ) (w i r : ℕ) : Type 0 where
  pub inside : i ≤ 16
  pub done : (k : ℕ) → k < i → (bit r k ≡ true) ↔ Precedes rows w k
  pub rest : (k : ℕ) → i ≤ k → ¬ (bit r k ≡ true)

pub preceding_none : (rows : List ℕ) (w : ℕ) → Preceding rows w 0 0
preceding_none rows w = record { inside = omega arith; done = λ k l. absurd (omega arith); rest = λ k l e. false≢true (sym (bit_none k) ∙ e) }

pub preceding_step : {rows : List ℕ} {w i r r' : ℕ} → Preceding rows w i r → i < 16
    → ((k : ℕ) → (bit r' k ≡ true) ↔ ((bit r k ≡ true) ⊎ ((k ≡ i) × Common (get_or rows i 0) w))) → Preceding rows w (i + 1) r'
preceding_step {rows} {w} {i} {r} {r'} g l row =
    record {
      inside = omega arith;
      done = λ k h. go k h (ℕ_discrete k i);
      rest = λ k h e. ⊎_elim (g.rest k (omega arith)) (λ q. let z = q.0 in absurd (omega arith)) ((row k).0 e);
    }
  where
    go : (k : ℕ) → k < i + 1 → Dec (k ≡ i) → (bit r' k ≡ true) ↔ Precedes rows w k
    go k h (yes e) = (
      λ q. ⊎_elim (λ z. absurd (g.rest k (omega arith) z)) (λ z. subst (λ (x : ℕ). Precedes rows w x) (sym e) z.1) ((row k).0 q),
      λ c. (row k).1 (inr (e, subst (λ (x : ℕ). Precedes rows w x) e c)),
    )
    go k h (no d) = (
      λ q. ⊎_elim (g.done k (omega arith)).0 (λ z. absurd (d z.0)) ((row k).0 q),
      λ c. (row k).1 (inl ((g.done k (omega arith)).1 c)),
    )

pub preceding_all : {rows : List ℕ} {w i r : ℕ} → Preceding rows w i r → 16 ≤ i → Exactly r (Precedes rows w)
preceding_all g l k h = g.done k (omega arith)

-- ── What precedes the members of two sets ──
module _ (rows : List ℕ) (s steps x i : ℕ) (meet : (j : ℕ) → bit x j ≡ and (bit s j) (bit steps j)) where
  pub sources : Precedes rows x i ↔ Sources rows s steps i
  sources = (
    λ (j, l, e, b). let (f, g) = and_parts (bit s j) (bit steps j) (sym (meet j) ∙ b) in (j, l, f, g, e),
    λ (j, l, f, g, e). (j, l, e, meet j ∙ and_both (bit s j) (bit steps j) f g),
  )

  pub sources_none : x ≡ 0 → (bit 0 i ≡ true) ↔ Sources rows s steps i
  sources_none e = (λ b. absurd (false≢true (sym (bit_none i) ∙ b)), λ (j, l, f, g, h). absurd (common_none s steps x meet e (j, l, f, g)))
