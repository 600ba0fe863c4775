-- The pairs of all nodes while they grow.
use Prim.Native.Nat.{ℕ, ◌+◌, ◌<◌}
use mathlib.Core.Path.{◌≡◌, sym, subst}
use mathlib.Core.Logic.{◌≢◌, ◌⊎◌, inl, inr}
use mathlib.Core.List.{List}
use native.Mathlib.Decide.{ℕ_discrete, dec_lt}
use native.Mathlib.Omega.{arith}
use lib.ListN.{get_or}
use Rattle.matrices.specs.Matrices.{Related, Drawing}
use Rattle.layout.specs.Part.{PAIRS, REST, pair_at}
use Rattle.layout.proofs.Frames.{frame_wider, frame_within, within_none, within_then, within_back}
use Rattle.pairs.specs.Derived.{Derived}
use Rattle.pairs.specs.Growing.{Framed, Held, Ended, Grown}
use Rattle.pairs.proofs.Widening.{SameAt, related_same}
use Rattle.pairs.proofs.Framing.{ends_kept, derived_kept}

pub grown_none : (n : ℕ) (p : List ℕ) → Grown n p p
grown_none n p = record { framed = within_none p; grow = λ v a b h l r e. e; sound = λ last h. h }

pub grown_then : {n : ℕ} {p q r : List ℕ} → Grown n p q → Grown n q r → Grown n p r
grown_then f g = record {
  framed = within_then f.framed g.framed;
  grow = λ v a b h l r e. g.grow v a b h l r (f.grow v a b h l r e);
  sound = λ last h. g.sound last (f.sound last h);
}

-- what ends stays
pub ended_kept : {n : ℕ} {p q : List ℕ} (last : ℕ) → Grown n p q → Ended last n n p → Ended last n n q
ended_kept last g h v a b i l r e = g.grow v a b i l r (h v a b i l r (ends_kept (within_back g.framed) last v a b i l r e))

-- ── One matrix is drawn ──
module _ {n v : ℕ} {A : ℕ → ℕ → Type 0} {p q : List ℕ} (inside : v < n) (d : Drawing A (pair_at n v) 16 p q) where
  pub drawn_framed : Framed n p q
  drawn_framed = frame_within n PAIRS REST (frame_wider (omega arith) (omega arith) d.frame)

  pub drawn_other : (u : ℕ) → u ≢ v → SameAt p q (pair_at n u)
  drawn_other u other k l = go (dec_lt u v)
    where
      go : Dec (u < v) → get_or p (pair_at n u + k) 0 ≡ get_or q (pair_at n u + k) 0
      go (yes h) = sym (d.frame.front (pair_at n u + k) (omega arith))
      go (no h) = sym (d.frame.behind (pair_at n u + k) (omega arith))

-- it gets what X adds to it
module _ {n v : ℕ} {X : ℕ → ℕ → Type 0} {p q : List ℕ} (inside : v < n) (d : Drawing (λ a b. Related p (pair_at n v) a b ⊎ X a b) (pair_at n v) 16 p q) where
  pub drawn_grown : ((last : ℕ) → Held last n n p → (a b : ℕ) → a < 16 → b < 16 → X a b → Derived n p last v a b) → Grown n p q
  drawn_grown derived = record { framed = framed; grow = λ u a b h l r e. grow u a b l r e (ℕ_discrete u v); sound = λ last old u a b h l r e. sound last old u a b h l r e (ℕ_discrete u v) }
    where
      framed : Framed n p q
      framed = drawn_framed inside d

      grow : (u a b : ℕ) → a < 16 → b < 16 → Related p (pair_at n u) a b → Dec (u ≡ v) → Related q (pair_at n u) a b
      grow u a b l r e (yes o) = subst (λ (x : ℕ). Related q (pair_at n x) a b) (sym o) ((d.done a b l r).1 (inl (subst (λ (x : ℕ). Related p (pair_at n x) a b) o e)))
      grow u a b l r e (no o) = related_same p q (pair_at n u) a b l (drawn_other inside d u o) e

      new : (last : ℕ) → Held last n n p → (a b : ℕ) → a < 16 → b < 16 → Related p (pair_at n v) a b ⊎ X a b → Derived n q last v a b
      new last old a b l r (inl e) = derived_kept framed last (old v a b inside l r e)
      new last old a b l r (inr x) = derived_kept framed last (derived last old a b l r x)

      sound : (last : ℕ) → Held last n n p → (u a b : ℕ) → u < n → a < 16 → b < 16 → Related q (pair_at n u) a b → Dec (u ≡ v) → Derived n q last u a b
      sound last old u a b h l r e (yes o) =
          subst (λ (x : ℕ). Derived n q last x a b) (sym o) (new last old a b l r ((d.done a b l r).0 (subst (λ (x : ℕ). Related q (pair_at n x) a b) o e)))
      sound last old u a b h l r e (no o) =
          derived_kept framed last (old u a b h l r (related_same q p (pair_at n u) a b l (λ k i. sym (drawn_other inside d u o k i)) e))
