-- The pairs at the start, node by node.
use Prim.Native.Nat.{ℕ, ◌+◌, ◌<◌}
use mathlib.Core.Path.{◌≡◌, sym, subst}
use mathlib.Core.Logic.{◌⊎◌, inl, inr}
use mathlib.Core.List.{List}
use native.Mathlib.Nat.{eq-or-lt_of_le}
use native.Mathlib.Omega.{arith}
use Rattle.matrices.specs.Matrices.{Exactly, Related, Before, Drawing}
use Rattle.layout.specs.Part.{loop_at, pair_at}
use Rattle.layout.proofs.Frames.{within_none, within_then, within_back}
use Rattle.pairs.specs.Derived.{EndsAt, Derived}
use Rattle.pairs.specs.Growing.{Square, Framed, Started}
use Rattle.pairs.proofs.Widening.{SameAt, related_same}
use Rattle.pairs.proofs.Framing.{ends_kept, derived_kept}
use Rattle.pairs.proofs.Grows.{drawn_framed, drawn_other}

-- the square of the positions that end at v
pub begun : (n last v w : ℕ) {here at : ℕ} {p q : List ℕ} → here ≡ loop_at n v → at ≡ pair_at n v
    → Exactly w (Before p here last) → Drawing (Square w) at 16 p q → Drawing (EndsAt n p last v) (pair_at n v) 16 p q
begun n last v w {p = p} {q = q} e f ends d =
    let drawn : Drawing (Square w) (pair_at n v) 16 p q = subst (λ (x : ℕ). Drawing (Square w) x 16 p q) f d in
    record {
      frame = drawn.frame;
      done = λ a b l r. (
        λ z. let (x, y) = (drawn.done a b l r).0 z in ((told a l).0 x, (told b r).0 y),
        λ (x, y). (drawn.done a b l r).1 ((told a l).1 x, (told b r).1 y),
      );
    }
  where
    told : Exactly w (Before p (loop_at n v) last)
    told = subst (λ (x : ℕ). Exactly w (Before p x last)) e ends

pub started_none : (last n : ℕ) (p : List ℕ) → Started last n 0 p p
started_none last n p = record {
  framed = within_none p;
  ended = λ v a b h. absurd (let f : ⊥ = omega arith in f);
  held = λ v a b h. absurd (let f : ⊥ = omega arith in f);
}

pub started_to : {last n k m : ℕ} {p q : List ℕ} → k ≡ m → Started last n k p q → Started last n m p q
started_to {last} {n} {p = p} {q = q} e s = subst (λ (x : ℕ). Started last n x p q) e s

pub started_step : {last n v : ℕ} {p q q' : List ℕ} → v < n → Started last n v p q → Drawing (EndsAt n q last v) (pair_at n v) 16 q q' → Started last n (v + 1) p q'
started_step {last} {n} {v} {p} {q} {q'} inside s d = record {
  framed = within_then s.framed framed;
  ended = λ u a b h l r e. ended u a b l r e (eq-or-lt_of_le (omega arith));
  held = λ u a b h l r e. held u a b l r e (eq-or-lt_of_le (omega arith));
}
  where
    framed : Framed n q q'
    framed = drawn_framed inside d

    other : (u : ℕ) → u < v → SameAt q q' (pair_at n u)
    other u h = drawn_other inside d u (omega arith)

    ended : (u a b : ℕ) → a < 16 → b < 16 → EndsAt n q' last u a b → (u ≡ v) ⊎ (u < v) → Related q' (pair_at n u) a b
    ended u a b l r e (inl o) =
        subst (λ (x : ℕ). Related q' (pair_at n x) a b) (sym o)
        ((d.done a b l r).1 (ends_kept (within_back framed) last v a b inside l r (subst (λ (x : ℕ). EndsAt n q' last x a b) o e)))
    ended u a b l r e (inr h) =
        related_same q q' (pair_at n u) a b l (other u h) (s.ended u a b h l r (ends_kept (within_back framed) last u a b (omega arith) l r e))

    held : (u a b : ℕ) → a < 16 → b < 16 → Related q' (pair_at n u) a b → (u ≡ v) ⊎ (u < v) → Derived n q' last u a b
    held u a b l r e (inl o) =
        subst (λ (x : ℕ). Derived n q' last x a b) (sym o)
        (derived_kept framed last (Derived.ended inside l r ((d.done a b l r).0 (subst (λ (x : ℕ). Related q' (pair_at n x) a b) o e))))
    held u a b l r e (inr h) = derived_kept framed last (s.held u a b h l r (related_same q' q (pair_at n u) a b l (λ k i. sym (other u h k i)) e))
