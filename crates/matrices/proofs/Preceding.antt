-- The loop of `before`: the positions below i that are related to a member of w.
use Prim.Native.Nat.{ℕ, ◌+◌, ◌<◌}
use mathlib.Core.Path.{◌≡◌, sym, ap, ◌∙◌, subst}
use mathlib.Core.Bool.{true, false≢true}
use mathlib.Core.Logic.{◌⊎◌, inl, inr}
use mathlib.Core.List.{List}
use native.Mathlib.Nat.{eq-or-lt_of_le}
use native.Mathlib.Omega.{arith}
use borrow.Author.Tests.{eqb-true, eq-eqb}
use Rattle.bits.specs.Sets.{bit, or, is}
use Rattle.bits.proofs.SetLaws.{bit_none}
use Rattle.matrices.specs.Matrices.{Exactly, Before}
use Rattle.matrices.proofs.Members.{or_cases, or_left, or_right}

pub record Preceding (p : List ℕ) (at w i r : ℕ) : Type 0 where
  pub found : (k : ℕ) → bit r k ≡ true → (k < i) × Before p at w k
  pub all : (k : ℕ) → k < i → Before p at w k → bit r k ≡ true

pub preceding_none : (p : List ℕ) (at w : ℕ) → Preceding p at w 0 0
preceding_none p at w = record { found = λ k e. absurd (false≢true (sym (bit_none k) ∙ e)); all = λ k h. absurd (let f : ⊥ = omega arith in f) }

-- nothing is related to a member of the empty set
pub preceding_nothing : (p : List ℕ) (at w : ℕ) → w ≡ 0 → Exactly 0 (Before p at w)
preceding_nothing p at w e k h =
    (λ b. absurd (false≢true (sym (bit_none k) ∙ b)), λ (j, l, b, x). absurd (false≢true (sym (bit_none j) ∙ ap (λ z. bit z j) (sym e) ∙ b)))

module _ {p : List ℕ} {at w i r : ℕ} (c : Preceding p at w i r) where
  pub preceding_in : {r' : ℕ} → Before p at w i → ((k : ℕ) → bit r' k ≡ or (is k i) (bit r k)) → Preceding p at w (i + 1) r'
  preceding_in {r'} b insert =
      record { found = λ k e. to k (or_cases (is k i) (bit r k) (sym (insert k) ∙ e)); all = λ k h x. insert k ∙ from k x (eq-or-lt_of_le (omega arith)) }
    where
      to : (k : ℕ) → (is k i ≡ true) ⊎ (bit r k ≡ true) → (k < i + 1) × Before p at w k
      to k (inl e) = let q = eqb-true k i e in (omega arith, subst (λ (x : ℕ). Before p at w x) (sym q) b)
      to k (inr e) = let (h, x) = c.found k e in (omega arith, x)

      from : (k : ℕ) → Before p at w k → (k ≡ i) ⊎ (k < i) → or (is k i) (bit r k) ≡ true
      from k x (inl q) = or_left (is k i) (bit r k) (eq-eqb k i q)
      from k x (inr h) = or_right (is k i) (bit r k) (c.all k h x)

  pub preceding_out : (Before p at w i → ⊥) → Preceding p at w (i + 1) r
  preceding_out n =
      record { found = λ k e. let (h, x) = c.found k e in (omega arith, x); all = λ k h x. from k x (eq-or-lt_of_le (omega arith)) }
    where
      from : (k : ℕ) → Before p at w k → (k ≡ i) ⊎ (k < i) → bit r k ≡ true
      from k x (inl q) = absurd (n (subst (λ (y : ℕ). Before p at w y) q x))
      from k x (inr h) = c.all k h x

  pub preceding_all : i ≡ 16 → Exactly r (Before p at w)
  preceding_all e k h = (λ b. (c.found k b).1, λ x. c.all k (omega arith) x)
