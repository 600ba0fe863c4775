-- The rows of a matrix with more pairs, of positions that belong to different paths.
use Prim.Native.Nat.{ℕ, ◌+◌, ◌≤◌, ◌<◌}
use mathlib.Core.Path.{◌≡◌, refl, sym, ◌∙◌, subst}
use mathlib.Core.Logic.{◌⊎◌, inl, inr, ◌↔◌}
use mathlib.Core.Bool.{Bool, true, false, not, false≢true}
use mathlib.Core.List.{List}
use lib.ListN.{length, get_or, set}
use native.Mathlib.Omega.{arith}
use native.Mathlib.Decide.{dec_le}
use Rattle.bits.specs.Sets.{bit, or, and}
use Rattle.xpath.specs.Syntax.{XPath, size}
use Rattle.snippets.specs.Snippets.{Different}
use Rattle.matrices.specs.Matrices.{Drawing}
use Rattle.matrices.proofs.Members.{and_iff, union_iff}
use Rattle.matrices.proofs.Drawing.{drawing_step, undrawn}
use Rattle.edge_snippets.specs.Edges.{OfFirst, Opposite, Crossed}

not_true : (x : Bool) → (not x ≡ true) ↔ (x ≡ false)
not_true true = (λ e. sym e, λ e. sym e)
not_true false = (λ e. refl, λ e. refl)

module _ (set first i : ℕ) where
  -- of a position of the first path
  pub across_first : (r : ℕ) → bit first i ≡ true → ((j : ℕ) → bit r j ≡ and (bit set j) (not (bit first j))) → (j : ℕ) → (bit r j ≡ true) ↔ ((bit set j ≡ true) × Opposite first i j)
  across_first r h e j = (
    λ x. let (a, c) = (and_iff (bit set j) (not (bit first j)) (bit r j) (e j)).0 x in (a, inl (h, (not_true (bit first j)).0 c)),
    λ (a, o). (and_iff (bit set j) (not (bit first j)) (bit r j) (e j)).1 (a, (not_true (bit first j)).1 (go o)),
  )
    where
      go : Opposite first i j → bit first j ≡ false
      go (inl (x, y)) = y
      go (inr (x, y)) = absurd (false≢true (sym x ∙ h))

  -- of one of the second
  pub across_second : (r : ℕ) → bit first i ≡ false → ((j : ℕ) → bit r j ≡ and (bit set j) (bit first j)) → (j : ℕ) → (bit r j ≡ true) ↔ ((bit set j ≡ true) × Opposite first i j)
  across_second r h e j = (
    λ x. let (a, c) = (and_iff (bit set j) (bit first j) (bit r j) (e j)).0 x in (a, inr (h, c)),
    λ (a, o). (and_iff (bit set j) (bit first j) (bit r j) (e j)).1 (a, go o),
  )
    where
      go : Opposite first i j → bit first j ≡ true
      go (inl (x, y)) = absurd (false≢true (sym h ∙ x))
      go (inr (x, y)) = y

-- ── A row ──
module _ (row rows set first i : ℕ) where
  -- the row, or what the members add to it
  abbrev pub Wider : ℕ → ℕ → Type 0
  Wider r j = (bit r j ≡ true) ↔ ((bit row j ≡ true) ⊎ ((bit rows i ≡ true) × (bit set j ≡ true) × Opposite first i j))

  pub widened : (s r : ℕ) → bit rows i ≡ true → ((j : ℕ) → (bit s j ≡ true) ↔ ((bit set j ≡ true) × Opposite first i j)) → ((j : ℕ) → bit r j ≡ or (bit row j) (bit s j)) → (j : ℕ) → Wider r j
  widened s r h e u j = (λ x. to ((union_iff row s r u j).0 x), λ x. (union_iff row s r u j).1 (from x))
    where
      to : (bit row j ≡ true) ⊎ (bit s j ≡ true) → (bit row j ≡ true) ⊎ ((bit rows i ≡ true) × (bit set j ≡ true) × Opposite first i j)
      to (inl x) = inl x
      to (inr x) = let (a, o) = (e j).0 x in inr (h, a, o)

      from : (bit row j ≡ true) ⊎ ((bit rows i ≡ true) × (bit set j ≡ true) × Opposite first i j) → (bit row j ≡ true) ⊎ (bit s j ≡ true)
      from (inl x) = inl x
      from (inr (a, c, o)) = inr ((e j).1 (c, o))

  pub not_widened : bit rows i ≡ false → (j : ℕ) → Wider row j
  not_widened h j = (inl, from)
    where
      from : (bit row j ≡ true) ⊎ ((bit rows i ≡ true) × (bit set j ≡ true) × Opposite first i j) → bit row j ≡ true
      from (inl x) = x
      from (inr (a, c, o)) = absurd (false≢true (sym h ∙ a))

-- one row more
pub crossed_step : {at i : ℕ} {p q : List ℕ} (rows s first x : ℕ) → Drawing (Crossed p at rows s first) at i p q → at + i < length p
    → ((j : ℕ) → Wider (get_or q (at + i) 0) rows s first i x j) → Drawing (Crossed p at rows s first) at (i + 1) p (set q (at + i) x)
crossed_step {at} {i} rows s first x d room wider =
    drawing_step d x room (λ j h. subst (λ (w : ℕ). (bit x j ≡ true) ↔ ((bit w j ≡ true) ⊎ ((bit rows i ≡ true) × (bit s j ≡ true) × Opposite first i j))) (undrawn d i (omega arith)) (wider j))

-- ── The two paths ──
pub opposite_iff : (P R : XPath) (first i j : ℕ) → OfFirst P first → i < 16 → j < 16 → Opposite first i j ↔ Different P R i j
opposite_iff P R first i j f l r = (to, from)
  where
    late : (k : ℕ) → k < 16 → bit first k ≡ false → size P < k
    late k q e = go (dec_le k (size P))
      where
        go : Dec (k ≤ size P) → size P < k
        go (yes h) = absurd (false≢true (sym e ∙ (f k q).1 h))
        go (no h) = omega arith

    none : (k : ℕ) → k < 16 → size P < k → bit first k ≡ false
    none k q h = go (bit first k) refl
      where
        go : (x : Bool) → bit first k ≡ x → bit first k ≡ false
        go true e = let z = (f k q).0 e in absurd (omega arith)
        go false e = e

    to : Opposite first i j → Different P R i j
    to (inl (x, y)) = inl ((f i l).0 x, late j r y)
    to (inr (x, y)) = inr (late i l x, (f j r).0 y)

    from : Different P R i j → Opposite first i j
    from (inl (x, y)) = inl ((f i l).1 x, none j r y)
    from (inr (x, y)) = inr (none i l x, (f j r).1 y)
