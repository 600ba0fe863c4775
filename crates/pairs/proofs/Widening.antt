-- What a matrix gets by the pairs that come to those of another.
use Prim.Native.Nat.{ℕ, ◌+◌, ◌<◌}
use mathlib.Core.Path.{◌≡◌, sym, ap, ◌∙◌, subst}
use mathlib.Core.Logic.{inl, inr}
use mathlib.Core.Bool.{Bool, true, false}
use mathlib.Core.List.{List}
use native.Mathlib.Omega.{arith}
use lib.ListN.{get_or}
use Rattle.bits.specs.Sets.{bit}
use Rattle.matrices.specs.Matrices.{Exactly, Related, Before, Apart}
use Rattle.matrices.specs.Widening.{Joined, Widening}
use Rattle.matrices.proofs.Drawing.{apart_same}
use Rattle.matrices.proofs.Widening.{widening_more}
use Rattle.pairs.specs.Derived.{Turned, Over, MeetsBy}
use Rattle.pairs.specs.Growing.{Widened}

-- the matrices at an offset are the same
abbrev pub SameAt : List ℕ → List ℕ → ℕ → Type 0
SameAt p q at = (k : ℕ) → k < 16 → get_or p (at + k) 0 ≡ get_or q (at + k) 0

-- ── What depends on which matrices ──
pub related_same : (p q : List ℕ) (at i j : ℕ) → i < 16 → SameAt p q at → Related p at i j → Related q at i j
related_same p q at i j l same e = ap (λ (w : ℕ). bit w j) (sym (same i l)) ∙ e

pub turned_same : (back : Bool) (p q : List ℕ) (by i j : ℕ) → i < 16 → j < 16 → SameAt p q by → Turned back p by i j → Turned back q by i j
turned_same false p q by i j l r same e = related_same p q by i j l same e
turned_same true p q by i j l r same e = related_same p q by j i r same e

pub over_same : {A B : ℕ → ℕ → Type 0} (p q : List ℕ) {from to a b : ℕ} → a < 16 → b < 16 → SameAt p q from → SameAt p q to
    → ((i j : ℕ) → i < 16 → j < 16 → A i j → B i j) → Over A p from to a b → Over B q from to a b
over_same p q {from} {to} {a} {b} l r one two pairs o = record {
  first = o.first;
  second = o.second;
  first_few = o.first_few;
  second_few = o.second_few;
  left = related_same p q from a o.first l one o.left;
  pair = pairs o.first o.second o.first_few o.second_few o.pair;
  right = related_same p q to b o.second r two o.right;
}

pub meets_same : (p q : List ℕ) (by : ℕ) {up down a b : ℕ} → a < 16 → b < 16 → SameAt p q by → SameAt p q up → SameAt p q down
    → MeetsBy p by up down a b → MeetsBy q by up down a b
meets_same p q by l r one two three (inl o) = inl (over_same p q l r two three (λ i j h k. turned_same false p q by i j h k one) o)
meets_same p q by l r one two three (inr o) = inr (over_same p q l r three two (λ i j h k. turned_same true p q by i j h k one) o)

-- ── A row ──
-- r are the partners of the members of w
abbrev pub Partners : Bool → List ℕ → ℕ → ℕ → ℕ → Type 0
Partners back p by w r = Exactly r (λ j. (i : ℕ) × (i < 16) × (bit w i ≡ true) × Turned back p by i j)

pub partners_of : (b : Bool) {back : Bool} (p : List ℕ) (by w r : ℕ) → back ≡ b → Partners b p by w r → Partners back p by w r
partners_of b p by w r e h = subst (λ (x : Bool). Partners x p by w r) (sym e) h

-- the partners of what a is related to, and what is related to them
pub over_row : {A : ℕ → ℕ → Type 0} (p : List ℕ) (from to a there r : ℕ)
    → Exactly there (λ j. (i : ℕ) × (i < 16) × (bit (get_or p (from + a) 0) i ≡ true) × A i j) → Exactly r (Before p to there) → Exactly r (Over A p from to a)
over_row {A} p from to a there r partners before b few = (to_over, from_over)
  where
    to_over : bit r b ≡ true → Over A p from to a b
    to_over e =
        let (j, l, m, right) = (before b few).0 e in
        let (i, k, left, pair) = (partners j l).0 m in
        record { first = i; second = j; first_few = k; second_few = l; left = left; pair = pair; right = right }

    from_over : Over A p from to a b → bit r b ≡ true
    from_over o = (before b few).1 (o.second, o.second_few, (partners o.second o.second_few).1 (o.first, o.first_few, o.left, o.pair), o.right)

-- ── The rows of one matrix ──
module _ (back : Bool) {from by to at a r s x : ℕ} {p q q' : List ℕ} where
  pub widen_step : Apart from at → Apart by at → Apart to at → a < 16 → Exactly x (Over (Turned back q by) q from to a)
      → Widening (Widened p at from by back to) at a p q r → Joined (at + a) x q q' s → Widening (Widened p at from by back to) at (a + 1) p q' (r + s)
  widen_step one two three few row c j =
      widening_more
      (λ b h. (
        λ e. over_same q p few h (kept from one) (kept to three) (λ i k l m. turned_same back q p by i k l m (kept by two)) ((row b h).0 e),
        λ o. (row b h).1 (over_same p q few h (back_kept from one) (back_kept to three) (λ i k l m. turned_same back p q by i k l m (back_kept by two)) o),
      ))
      c
      j
    where
      kept : (o : ℕ) → Apart o at → SameAt q p o
      kept o f k h = apart_same c.drawn o k f (omega arith) h

      back_kept : (o : ℕ) → Apart o at → SameAt p q o
      back_kept o f k h = sym (kept o f k h)
