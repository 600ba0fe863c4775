-- What a matrix gets by the detours over another.
use Prim.Native.Nat.{ℕ, ◌+◌, ◌<◌}
use mathlib.Core.Path.{◌≡◌, sym, ap, ◌∙◌, subst}
use mathlib.Core.Logic.{◌≢◌, ◌↔◌}
use mathlib.Core.Bool.{true}
use mathlib.Core.List.{List}
use native.Mathlib.Omega.{arith}
use lib.ListN.{get_or}
use Rattle.bits.specs.Sets.{bit, and}
use Rattle.layout.proofs.Frames.{frame_then}
use Rattle.matrices.specs.Matrices.{Exactly, Related, Image, Redrawn, Apart}
use Rattle.closures.specs.Closures.{Chain}
use Rattle.matrices.specs.Widening.{Joined, Widening}
use Rattle.matrices.proofs.Members.{and_parts, and_both}
use Rattle.closures.proofs.Chains.{chain_one, chain_map}
use Rattle.matrices.proofs.Drawing.{apart_same}
use Rattle.matrices.proofs.Pairs.{pairs_mono}
use Rattle.matrices.proofs.Widening.{widening_more}
use Rattle.machine.specs.declared.Machine.{Machine}
use Rattle.detours.specs.Detours.{Detour}
use Rattle.detours.specs.Visits.{Widened, Visited}

-- ── One detour ──
-- a step, the image, and a step
pub detours : (m : Machine) (p : List ℕ) (over w w' i left there next r : ℕ)
    → ((j : ℕ) → bit left j ≡ and (bit (get_or m.rows i 0) j) (bit w j))
    → Exactly there (Image p over left)
    → Exactly next (λ j. (k : ℕ) × (k < 16) × (bit there k ≡ true) × (bit (get_or m.rows k 0) j ≡ true))
    → ((j : ℕ) → bit r j ≡ and (bit next j) (bit w' j)) → Exactly r (Detour m p over w w' i)
detours m p over w w' i left there next r leave image follow back j few = (to, from)
  where
    to : bit r j ≡ true → Detour m p over w w' i j
    to e =
        let (a, b) = and_parts (bit next j) (bit w' j) (sym (back j) ∙ e) in
        let (l, last_few, c, d) = (follow j few).0 a in
        let (f, first_few, x, y) = (image l last_few).0 c in
        let (g, s) = and_parts (bit (get_or m.rows i 0) f) (bit w f) (sym (leave f) ∙ x) in
        record { first = f; last = l; first_few = first_few; last_few = last_few; leave = record { follows = g; step = s }; within = y; back = record { follows = d; step = b } }

    from : Detour m p over w w' i j → bit r j ≡ true
    from d =
        let f = d.first in
        let l = d.last in
        let x : bit left f ≡ true = leave f ∙ and_both (bit (get_or m.rows i 0) f) (bit w f) d.leave.follows d.leave.step in
        let c : bit there l ≡ true = (image l d.last_few).1 (f, d.first_few, x, d.within) in
        back j ∙ and_both (bit next j) (bit w' j) ((follow j few).1 (l, d.last_few, c, d.back.follows)) d.back.step

-- it depends on the matrix that it goes over alone
detour_same : {m : Machine} {p q : List ℕ} {over w w' i j : ℕ} → ((k : ℕ) → k < 16 → get_or p (over + k) 0 ≡ get_or q (over + k) 0)
    → Detour m p over w w' i j → Detour m q over w w' i j
detour_same same d = record {
  first = d.first;
  last = d.last;
  first_few = d.first_few;
  last_few = d.last_few;
  leave = d.leave;
  within = ap (λ (x : ℕ). bit x d.last) (sym (same d.first d.first_few)) ∙ d.within;
  back = d.back;
}

-- ── The rows of one matrix ──
pub widening_step : {m : Machine} {over at w w' i r s x : ℕ} {p q q' : List ℕ} → Apart over at → i < 16 → Exactly x (Detour m q over w w' i)
    → Widening (Widened m p over at w w') at i p q r → Joined (at + i) x q q' s → Widening (Widened m p over at w w') at (i + 1) p q' (r + s)
widening_step {over = over} {p = p} {q} apart few detour c a =
    widening_more (λ j h. (λ e. detour_same other ((detour j h).0 e), λ d. (detour j h).1 (detour_same (λ k l. sym (other k l)) d))) c a
  where
    other : (k : ℕ) → k < 16 → get_or q (over + k) 0 ≡ get_or p (over + k) 0
    other k h = apart_same c.drawn over k apart (omega arith) h

-- ── Closed again ──
module _ {A : ℕ → ℕ → Type 0} {at r : ℕ} {p q : List ℕ} (c : Widening A at 16 p q r) where
  pub visited_none : r ≡ 0 → Visited A at p q 0
  visited_none e =
      let same = c.still e in
      record {
        only = c.drawn.frame;
        closed = λ h. absurd (let f : ⊥ = omega arith in f);
        full = λ z i j h l a. subst (λ (x : List ℕ). Related x at i j) same ((c.drawn.done i j h l).1 a);
        count = omega (arith, c.count);
        still = λ z. same;
      }

  pub visited_some : {q' : List ℕ} → r ≢ 0 → Redrawn at q q' → ((i j : ℕ) → i < 16 → j < 16 → Related q' at i j ↔ Chain (λ i j. Related q at i j) i j) → Visited A at p q' r
  visited_some {q'} some only closure = record {
    only = frame_then c.drawn.frame only;
    closed = λ z i j h l. (
      λ e. chain_map (λ a b x y. (c.drawn.done a b x y).0) h ((closure i j h l).0 e),
      λ d. (closure i j h l).1 (chain_map (λ a b x y. (c.drawn.done a b x y).1) h d),
    );
    full = λ z. absurd (some z);
    count = let g = pairs_mono q q' at 16 (λ i j h l e. (closure i j h l).1 (chain_one l e)) in omega (arith, c.count);
    still = λ z. absurd (some z);
  }
