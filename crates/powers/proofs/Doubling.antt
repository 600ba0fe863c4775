-- Exponent k + 1, from two powers k.
use Prim.Native.Nat.{ℕ, ◌+◌, ◌^◌, ◌≤◌, ◌<◌}
use mathlib.Core.Path.{◌≡◌, sym, subst}
use mathlib.Core.Logic.Iff
use mathlib.Core.Logic.{inl, inr, ◌↔◌}
use mathlib.Core.List.{List}
use lib.ListN.{get_or}
use native.Mathlib.Omega.{arith}
use Rattle.xpath.specs.Syntax.{XPath, size}
use Rattle.xpath.specs.Tree.{Tree, WellFormed, Down}
use Rattle.xpath.proofs.Trees.{down_le}
use Rattle.positions.specs.Positions.{Comes}
use Rattle.snippets.proofs.Edges.{pass_down, pass_up, comes_few}
use Rattle.layout.specs.Blocks.{down_at, up_at, upper_at}
use Rattle.layout.specs.Words.{NONE}
use Rattle.table.specs.Links.{Points}
use Rattle.matrices.specs.Matrices.{Related, Composed}
use Rattle.powers.specs.Powers.{Power}
use Rattle.powers.specs.Blocks.{Twice}
use Rattle.powers.proofs.Ancestors.{power_join, power_split, power_over}

-- no node lies that far above
pub none_power : {P R : XPath} {t : Tree} {n k y : ℕ} {p : List ℕ} → get_or p (upper_at n k y) 0 ≡ NONE → ((x : ℕ) → ¬ Down t x y (2 ^ k)) → Power P R t n p k y
none_power e none = record {
  upper = inr (e, none);
  down = λ x i j d. absurd (none x d);
  up = λ x i j d. absurd (none x d);
}

module _ {P R : XPath} {t : Tree} (wf : WellFormed t) (few : size P + size R ≤ 14) where
  -- what comes over a node between
  over : {x h y i j : ℕ} (A B : ℕ → ℕ → Type 0) → i < 16 → Comes P R t i x j y ↔ ((k : ℕ) × Comes P R t i x k h × Comes P R t k h j y)
      → ((k : ℕ) → k < 16 → A i k ↔ Comes P R t i x k h) → ((k : ℕ) → k < 16 → B k j ↔ Comes P R t k h j y) → Composed A B i j ↔ Comes P R t i x j y
  over A B l pass f g = (
    λ (k, r, a, b). pass.1 (k, (f k r).0 a, (g k r).0 b),
    λ c. let (k, a, b) = pass.0 c in let r = comes_few P R t few a l in (k, r, (f k r).1 a, (g k r).1 b),
  )

  module _ {n k h y : ℕ} {p p' : List ℕ} (upper : Power P R t n p k h) (lower : Power P R t n p k y) (near : Down t h y (2 ^ k)) where
    pub twice_power : Twice n k h y p p' → Power P R t n p' (k + 1) y
    twice_power e = record {
      upper = subst (λ (w : ℕ). Points (λ x. Down t x y (2 ^ (k + 1))) w) (sym e.upper) (far upper.upper);
      down = λ x i j d l r.
          let a = power_over wf k near d in
          let g = over (Related p (down_at n k h)) (Related p (down_at n k y)) l (pass_down P R t wf a near i j) (λ z s. upper.down x i z a l s) (λ z s. lower.down h z j near s r) in
          Iff.trans (e.down i j l r) g;
      up = λ x i j d l r.
          let a = power_over wf k near d in
          let g = over (Related p (up_at n k y)) (Related p (up_at n k h)) l (pass_up P R t wf a near i j) (λ z s. lower.up h i z near l s) (λ z s. upper.up x z j a s r) in
          Iff.trans (e.up i j l r) g;
    }
      where
        far : Points (λ x. Down t x h (2 ^ k)) (get_or p (upper_at n k h) 0) → Points (λ x. Down t x y (2 ^ (k + 1))) (get_or p (upper_at n k h) 0)
        far (inl d) = inl (power_join wf k d near)
        far (inr (none, f)) = inr (none, λ x d. f x (power_over wf k near d))

  -- ── What the word of the upper node tells ──
  module _ {n k y : ℕ} {p : List ℕ} (lower : Power P R t n p k y) where
    -- a node
    pub upper_near : n ≤ 4096 → get_or p (upper_at n k y) 0 < n → Down t (get_or p (upper_at n k y) 0) y (2 ^ k)
    upper_near small h = go lower.upper
      where
        go : Points (λ x. Down t x y (2 ^ k)) (get_or p (upper_at n k y) 0) → Down t (get_or p (upper_at n k y) 0) y (2 ^ k)
        go (inl d) = d
        go (inr (none, f)) = absurd (omega arith)

    -- none
    pub upper_none : y < n → n ≤ get_or p (upper_at n k y) 0 → (x : ℕ) → ¬ Down t x y (2 ^ k)
    upper_none r h = go lower.upper
      where
        go : Points (λ x. Down t x y (2 ^ k)) (get_or p (upper_at n k y) 0) → (x : ℕ) → ¬ Down t x y (2 ^ k)
        go (inl d) = let l = down_le t wf d in absurd (omega arith)
        go (inr (none, f)) = f

  -- so none lies twice as far above
  pub twice_none : {n y : ℕ} {p : List ℕ} (k : ℕ) → ((x : ℕ) → ¬ Down t x y (2 ^ k)) → get_or p (upper_at n (k + 1) y) 0 ≡ NONE → Power P R t n p (k + 1) y
  twice_none k none e = none_power e (λ x d. let (u, f, g) = power_split wf k d in none u g)
