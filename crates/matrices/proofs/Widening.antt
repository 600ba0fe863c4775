-- A matrix that grows row by row.
use Prim.Native.Nat.{ℕ, ◌+◌, ◌^◌, ◌≤◌, ◌<◌, zero-le}
use mathlib.Core.Path.{◌≡◌, refl, sym, ap, ◌∙◌, subst}
use mathlib.Core.Logic.{◌≢◌, ◌⊎◌, inl, inr, ◌↔◌}
use mathlib.Core.Bool.{Bool, true, false, not, false≢true}
use mathlib.Core.List.{List}
use native.Mathlib.Omega.{arith}
use lib.Count.{count_trailing_zeros}
use lib.ListN.{length, get_or, set}
use lib.Seq.{get_or-set_same}
use Rattle.bits.specs.Sets.{bit, or, and, size}
use Rattle.bits.proofs.SetLaws.{bit_none}
use Rattle.layout.proofs.Frames.{frame_none, set_frame}
use Rattle.matrices.specs.Matrices.{Exactly, Related, pairs}
use Rattle.matrices.specs.Widening.{Joined, Widening}
use Rattle.matrices.proofs.Members.{and_parts, or_left, lowest, size_less, union_iff}
use Rattle.matrices.proofs.Drawing.{drawing_none, drawing_more, undrawn}
use Rattle.matrices.proofs.Pairs.{pairs_more, pairs_same}

-- ── One word ──
module _ (at w : ℕ) (p : List ℕ) (new : ℕ) (fresh : (j : ℕ) → bit new j ≡ and (bit w j) (not (bit (get_or p at 0) j))) where
  -- no member is new
  pub joined_none : new ≡ 0 → Joined at w p p 0
  joined_none e = record {
    frame = frame_none p;
    here = λ j. known (bit (get_or p at 0) j) (bit w j) (sym (fresh j) ∙ ap (λ (x : ℕ). bit x j) e ∙ bit_none j);
    small = zero-le;
    count = omega arith;
    still = λ z. refl;
  }
    where
      known : (a b : Bool) → and b (not a) ≡ false → a ≡ or a b
      known true b f = refl
      known false true f = absurd (false≢true (sym f))
      known false false f = refl

  -- one is
  pub joined_some : (row : ℕ) → new ≢ 0 → new < 2 ^ 16 → at < length p → ((j : ℕ) → bit row j ≡ or (bit (get_or p at 0) j) (bit w j)) → Joined at w p (set p at row) 1
  joined_some row some fits room union = record {
    frame = set_frame p at row;
    here = λ j. ap (λ (x : ℕ). bit x j) here ∙ union j;
    small = omega arith;
    count = subst (λ (x : ℕ). 1 + size 16 (get_or p at 0) ≤ size 16 x) (sym here) more;
    still = λ z. absurd (let f : ⊥ = omega arith in f);
  }
    where
      here : get_or (set p at row) at 0 ≡ row
      here = get_or-set_same p at row 0 room

      was_false : (a : Bool) → not a ≡ true → a ≡ false
      was_false true e = sym e
      was_false false e = refl

      more : 1 + size 16 (get_or p at 0) ≤ size 16 row
      more =
          let (l, b) = lowest 16 new (omega arith) fits in
          let j = count_trailing_zeros 16 new in
          let (x, y) = and_parts (bit w j) (not (bit (get_or p at 0) j)) (sym (fresh j) ∙ b) in
          let s = size_less 16 (get_or p at 0) row j (λ i h e. union i ∙ or_left (bit (get_or p at 0) i) (bit w i) e) l (was_false (bit (get_or p at 0) j) y) ((union_iff (get_or p at 0) w row union j).1 (inr x)) in
          omega arith

-- ── The rows of one matrix ──
pub widening_none : (A : ℕ → ℕ → Type 0) (at : ℕ) (p : List ℕ) → Widening A at 0 p p 0
widening_none A at p = record { drawn = drawing_none A at p; small = zero-le; count = omega arith; still = λ z. refl }

-- one row more, with what X adds to it
module _ {X : ℕ → ℕ → Type 0} {at a r s x : ℕ} {p q q' : List ℕ} where
  pub widening_more : Exactly x (X a) → Widening (λ a b. Related p at a b ⊎ X a b) at a p q r → Joined (at + a) x q q' s
      → Widening (λ a b. Related p at a b ⊎ X a b) at (a + 1) p q' (r + s)
  widening_more row c j = record {
    drawn = drawing_more c.drawn j.frame (λ b h. (λ e. to b h ((both b).0 e), λ y. (both b).1 (from b h y)));
    small = omega (arith, c.small, j.small);
    count = count;
    still = λ z. j.still (omega arith) ∙ c.still (omega arith);
  }
    where
      same : get_or q (at + a) 0 ≡ get_or p (at + a) 0
      same = undrawn c.drawn a (omega arith)

      both : (b : ℕ) → Related q' at a b ↔ ((bit (get_or q (at + a) 0) b ≡ true) ⊎ (bit x b ≡ true))
      both = union_iff (get_or q (at + a) 0) x (get_or q' (at + a) 0) j.here

      to : (b : ℕ) → b < 16 → (bit (get_or q (at + a) 0) b ≡ true) ⊎ (bit x b ≡ true) → Related p at a b ⊎ X a b
      to b h (inl e) = inl (ap (λ (y : ℕ). bit y b) (sym same) ∙ e)
      to b h (inr e) = inr ((row b h).0 e)

      from : (b : ℕ) → b < 16 → Related p at a b ⊎ X a b → (bit (get_or q (at + a) 0) b ≡ true) ⊎ (bit x b ≡ true)
      from b h (inl e) = inl (ap (λ (y : ℕ). bit y b) same ∙ e)
      from b h (inr d) = inr ((row b h).1 d)

      count : r + s + pairs p at (a + 1) ≤ pairs q' at (a + 1)
      count =
          let e = pairs_more p at a in
          let f = pairs_more q' at a in
          let g = pairs_same q q' at a (λ k h. j.frame.front (at + k) (omega arith)) in
          let h = ap (size 16) same in
          omega (arith, c.count, j.count)

pub widening_to : {A : ℕ → ℕ → Type 0} {at k : ℕ} {p q : List ℕ} {r : ℕ} → k ≡ 16 → Widening A at k p q r → Widening A at 16 p q r
widening_to {A} {at} {k} {p} {q} {r} e c = subst (λ (x : ℕ). Widening A at x p q r) e c
