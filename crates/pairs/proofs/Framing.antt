-- Outside of the pairs all words are as before, and so is what they tell.
use Prim.Native.Nat.{ℕ, ◌+◌, ◌*◌, ◌≤◌, ◌<◌}
use mathlib.Core.Path.{◌≡◌, sym, ◌∙◌, subst}
use mathlib.Core.Logic.{◌⊎◌, inl, inr}
use mathlib.Core.List.{List}
use native.Mathlib.Omega.{arith}
use Rattle.layout.specs.Blocks.{snippet_at}
use Rattle.layout.specs.Part.{loop_at}
use Rattle.layout.specs.Table.{PARENT}
use Rattle.layout.specs.Words.{word}
use Rattle.layout.proofs.Frames.{before_within}
use Rattle.matrices.specs.Matrices.{Before}
use Rattle.pairs.specs.Derived.{Sees, LeadsOver, EndsAt, Derived}
use Rattle.pairs.specs.Growing.{Ready, Framed}
use Rattle.pairs.proofs.Widening.{SameAt, related_same, meets_same}

-- a matrix that stands before the pairs or behind them
abbrev pub Outside : ℕ → ℕ → Type 0
Outside n at = (at + 16 ≤ 32 * n) ⊎ (48 * n ≤ at)

-- the matrices of a node and of an edge
loop_outside : (n v : ℕ) → v < n → Outside n (loop_at n v)
loop_outside n v h = inl (omega arith)

pub snippet_outside : (n y : ℕ) → Outside n (snippet_at n 0 y)
snippet_outside n y = inr (omega arith)

pub sees_outside : (n : ℕ) (p : List ℕ) (y v up down : ℕ) → v < n → Sees n p y v up down → Outside n up × Outside n down
sees_outside n p y v up down h (inl (e, a, b)) = (inl (omega arith), inr (omega arith))
sees_outside n p y v up down h (inr (e, a, b)) = (inr (omega arith), inl (omega arith))

leads_outside : (n : ℕ) (p : List ℕ) (y v u at : ℕ) → LeadsOver n p y v u at → Outside n at
leads_outside n p y v u at (inl (e, a, b)) = inr (omega arith)
leads_outside n p y v u at (inr (e, a, b)) = inr (omega arith)

module _ {n : ℕ} {p q : List ℕ} (f : Framed n p q) where
  pub framed_same : (at : ℕ) → Outside n at → SameAt p q at
  framed_same at (inl h) k l = sym (f.front (at + k) (omega arith))
  framed_same at (inr h) k l = sym (f.behind (at + k) (omega arith))

  pub framed_parent : (y : ℕ) → y < n → word q n PARENT y ≡ word p n PARENT y
  framed_parent y h = before_within f PARENT y (omega arith) h

  pub ready_kept : Ready n p → Ready n q
  ready_kept r = record {
    few = r.few;
    room = let e = f.long in omega (arith, r.room);
    parents = λ v h l. subst (λ (u : ℕ). u < v) (sym (framed_parent v l)) (r.parents v h l);
  }

  pub sees_kept : (y v up down : ℕ) → y < n → Sees n p y v up down → Sees n q y v up down
  sees_kept y v up down h (inl (e, a, b)) = inl (e ∙ sym (framed_parent y h), a, b)
  sees_kept y v up down h (inr s) = inr s

  leads_kept : (y v u at : ℕ) → y < n → LeadsOver n p y v u at → LeadsOver n q y v u at
  leads_kept y v u at h (inl (e, a, b)) = inl (e ∙ sym (framed_parent y h), a, b)
  leads_kept y v u at h (inr (e, a, b)) = inr (e, a ∙ sym (framed_parent y h), b)

  before_kept : (at w a : ℕ) → Outside n at → a < 16 → Before p at w a → Before q at w a
  before_kept at w a o h (j, l, m, r) = (j, l, m, related_same p q at a j h (framed_same at o) r)

  pub ends_kept : (last v a b : ℕ) → v < n → a < 16 → b < 16 → EndsAt n p last v a b → EndsAt n q last v a b
  ends_kept last v a b h l r (x, y) = (before_kept (loop_at n v) last a (loop_outside n v h) l x, before_kept (loop_at n v) last b (loop_outside n v h) r y)

  pub derived_kept : (last : ℕ) {v a b : ℕ} → Derived n p last v a b → Derived n q last v a b
  derived_kept last {v} {a} {b} (Derived.ended h l r e) = Derived.ended h l r (ends_kept last v a b h l r e)
  derived_kept last {v} (Derived.met y up down h i k l r s m) =
      let (o, u) = sees_outside n p y v up down h s in
      Derived.met y up down h i k l r (sees_kept y v up down k s)
      (meets_same p q (snippet_at n 0 y) l r (framed_same (snippet_at n 0 y) (snippet_outside n y)) (framed_same up o) (framed_same down u) m)
  derived_kept last {v} {a} {b} (Derived.led {u = u} {i = i} {j = j} y at h k l r e g s x z d) =
      let o = leads_outside n p y v u at s in
      Derived.led y at h k l r e g (leads_kept y v u at k s) (related_same p q at a i l (framed_same at o) x) (related_same p q at b j r (framed_same at o) z) (derived_kept last d)
