-- Laws of what the snippets' rows gain.
use Prim.Native.Nat.{ℕ, suc, ◌+◌, ◌*◌, ◌^◌, ◌≤◌, ◌<◌}
use mathlib.Core.Path.{◌≡◌, sym, ap, ◌∙◌, subst}
use mathlib.Core.Logic.{◌⊎◌, inl, inr, ◌↔◌}
use mathlib.Core.Bool.{true}
use mathlib.Core.List.{List}
use lib.ListN.{get_or}
use native.Mathlib.Decide.{dec_lt, ℕ_discrete}
use native.Mathlib.Nat.{mul-le-mul_right}
use native.Mathlib.Omega.{arith}
use Rattle.bits.specs.Sets.{bit}
use Rattle.xpath.specs.Tree.{Tree, Down}
use Rattle.matrices.specs.Matrices.{Related, Apart, Drawing}
use Rattle.matrices.proofs.Drawing.{apart_same}
use Rattle.layout.specs.Blocks.{snippet_at}
use Rattle.edge_snippets.specs.Edges.{Gains, Opposite, Crossed}

module _ {t : Tree} {n b : ℕ} where
  -- the words of the rows are as they were
  pub gains_same : {A : ℕ → ℕ → ℕ → ℕ → ℕ → Type 0} {p p' : List ℕ} → ((l : ℕ) → 16 * n ≤ l → get_or p' l 0 ≡ get_or p l 0)
      → ((k x y i j : ℕ) → ¬ A k x y i j) → Gains t n b A p p'
  gains_same {A} {p} {p'} same none = record {
    rows = λ k x y i j l r f s q. (
      λ e. inl (subst (λ (w : ℕ). bit w j ≡ true) (same (snippet_at n k y + i) (omega arith)) e),
      back k x y i j,
    );
    top = λ k y i l r s f. same (snippet_at n k y + i) (omega arith);
  }
    where
      back : (k x y i j : ℕ) → Related p (snippet_at n k y) i j ⊎ A k x y i j → Related p' (snippet_at n k y) i j
      back k x y i j (inl e) = subst (λ (w : ℕ). bit w j ≡ true) (sym (same (snippet_at n k y + i) (omega arith))) e
      back k x y i j (inr a) = absurd (none k x y i j a)

  -- one after the other
  pub gains_then : {A B C : ℕ → ℕ → ℕ → ℕ → ℕ → Type 0} {p p₁ p₂ : List ℕ} → Gains t n b A p p₁ → Gains t n b B p₁ p₂
      → ((k x y i j : ℕ) → (A k x y i j ⊎ B k x y i j) ↔ C k x y i j) → Gains t n b C p p₂
  gains_then {A} {B} {C} {p} {p₁} {p₂} g h c = record {
    rows = λ k x y i j l r f s q. (
      λ e. to k x y i j (g.rows k x y i j l r f s q).0 ((h.rows k x y i j l r f s q).0 e),
      λ e. (h.rows k x y i j l r f s q).1 (from k x y i j (g.rows k x y i j l r f s q).1 e),
    );
    top = λ k y i l r s f. h.top k y i l r s f ∙ g.top k y i l r s f;
  }
    where
      to : (k x y i j : ℕ) → (Related p₁ (snippet_at n k y) i j → Related p (snippet_at n k y) i j ⊎ A k x y i j)
          → Related p₁ (snippet_at n k y) i j ⊎ B k x y i j → Related p (snippet_at n k y) i j ⊎ C k x y i j
      to k x y i j f (inr a) = inr ((c k x y i j).0 (inr a))
      to k x y i j f (inl e) = go (f e)
        where
          go : Related p (snippet_at n k y) i j ⊎ A k x y i j → Related p (snippet_at n k y) i j ⊎ C k x y i j
          go (inl z) = inl z
          go (inr a) = inr ((c k x y i j).0 (inl a))

      from : (k x y i j : ℕ) → (Related p (snippet_at n k y) i j ⊎ A k x y i j → Related p₁ (snippet_at n k y) i j)
          → Related p (snippet_at n k y) i j ⊎ C k x y i j → Related p₁ (snippet_at n k y) i j ⊎ B k x y i j
      from k x y i j f (inl e) = inl (f (inl e))
      from k x y i j f (inr z) = go ((c k x y i j).1 z)
        where
          go : A k x y i j ⊎ B k x y i j → Related p₁ (snippet_at n k y) i j ⊎ B k x y i j
          go (inl a) = inl (f (inr a))
          go (inr a) = inr a

  -- said in another way
  pub gains_iff : {A B : ℕ → ℕ → ℕ → ℕ → ℕ → Type 0} {p p' : List ℕ}
      → ((k x y i j : ℕ) → k < b → y < n → Down t x y (2 ^ k) → i < 16 → j < 16 → A k x y i j ↔ B k x y i j) → Gains t n b A p p' → Gains t n b B p p'
  gains_iff {A} {B} {p} c g = record {
    rows = λ k x y i j l r f s q. (
      λ e. to k x y i j (c k x y i j l r f s q).0 ((g.rows k x y i j l r f s q).0 e),
      λ e. (g.rows k x y i j l r f s q).1 (from k x y i j (c k x y i j l r f s q).1 e),
    );
    top = g.top;
  }
    where
      to : (k x y i j : ℕ) → (A k x y i j → B k x y i j) → Related p (snippet_at n k y) i j ⊎ A k x y i j → Related p (snippet_at n k y) i j ⊎ B k x y i j
      to k x y i j f (inl e) = inl e
      to k x y i j f (inr a) = inr (f a)

      from : (k x y i j : ℕ) → (B k x y i j → A k x y i j) → Related p (snippet_at n k y) i j ⊎ B k x y i j → Related p (snippet_at n k y) i j ⊎ A k x y i j
      from k x y i j f (inl e) = inl e
      from k x y i j f (inr a) = inr (f a)

  -- what was before is as it was, too
  pub gains_before : {A : ℕ → ℕ → ℕ → ℕ → ℕ → Type 0} {p p₁ p₂ : List ℕ} → ((l : ℕ) → 16 * n ≤ l → get_or p₁ l 0 ≡ get_or p l 0) → Gains t n b A p₁ p₂ → Gains t n b A p p₂
  gains_before {A} {p₂ = p₂} same g = record {
    rows = λ k x y i j l r f s q.
        subst (λ (w : ℕ). Related p₂ (snippet_at n k y) i j ↔ ((bit w j ≡ true) ⊎ A k x y i j)) (same (snippet_at n k y + i) (omega arith)) (g.rows k x y i j l r f s q);
    top = λ k y i l r s f. g.top k y i l r s f ∙ same (snippet_at n k y + i) (omega arith);
  }

-- ── The rows of one exponent and node ──
-- other rows have other words
apart_rows : (n k l u y : ℕ) → u < n → y < n → ¬ ((l ≡ k) × (y ≡ u)) → Apart (snippet_at n l y) (snippet_at n k u)
apart_rows n k l u y p q f = go (dec_lt l k) (dec_lt k l) (dec_lt y u)
  where
    go : Dec (l < k) → Dec (k < l) → Dec (y < u) → Apart (snippet_at n l y) (snippet_at n k u)
    go (yes h) c d = let s : suc l * n ≤ k * n = mul-le-mul_right n h in inl (omega arith)
    go (no g) (yes h) d = let s : suc k * n ≤ l * n = mul-le-mul_right n h in inr (omega arith)
    go (no g) (no h) (yes d) = let e : l ≡ k = omega arith in let s : l * n ≡ k * n = ap (λ (z : ℕ). z * n) e in inl (omega arith)
    go (no g) (no h) (no d) = let e : l ≡ k = omega arith in let s : l * n ≡ k * n = ap (λ (z : ℕ). z * n) e in inr (go' (dec_lt u y))
      where
        go' : Dec (u < y) → snippet_at n k u + 16 ≤ snippet_at n l y
        go' (yes r) = let e : l ≡ k = omega arith in let s : l * n ≡ k * n = ap (λ (z : ℕ). z * n) e in omega arith
        go' (no r) = absurd (f (omega arith, omega arith))

pub gains_rows : {t : Tree} {n b : ℕ} {C : ℕ → ℕ → ℕ → ℕ → ℕ → Type 0} {p p' : List ℕ} (k u rows set first : ℕ) → u < n → (x : ℕ) × Down t x u (2 ^ k)
    → ((x i j : ℕ) → Down t x u (2 ^ k) → i < 16 → j < 16 → ((bit rows i ≡ true) × (bit set j ≡ true) × Opposite first i j) ↔ C k x u i j)
    → ((l x y i j : ℕ) → C l x y i j → (l ≡ k) × (y ≡ u))
    → Drawing (Crossed p (snippet_at n k u) rows set first) (snippet_at n k u) 16 p p' → Gains t n b C p p'
gains_rows {t} {n} {b} {C} {p} {p'} k u rows set first node (a, down) here only h = record {
  rows = λ l x y i j low r f s q. go l x y i j r f s q (ℕ_discrete l k) (ℕ_discrete y u);
  top = λ l y i low r s f. same l y i r s (λ (e, g). f a (subst (λ (y : ℕ). Down t a y (2 ^ l)) (sym g) (subst (λ (l : ℕ). Down t a u (2 ^ l)) (sym e) down)));
}
  where
    same : (l y i : ℕ) → y < n → i < 16 → ¬ ((l ≡ k) × (y ≡ u)) → get_or p' (snippet_at n l y + i) 0 ≡ get_or p (snippet_at n l y + i) 0
    same l y i r s f = apart_same h (snippet_at n l y) i (apart_rows n k l u y node r f) (omega arith) s

    at : (x i j : ℕ) → Down t x u (2 ^ k) → i < 16 → j < 16 → Related p' (snippet_at n k u) i j ↔ (Related p (snippet_at n k u) i j ⊎ C k x u i j)
    at x i j f s q = (λ e. to ((h.done i j s q).0 e), λ e. (h.done i j s q).1 (from e))
      where
        to : Crossed p (snippet_at n k u) rows set first i j → Related p (snippet_at n k u) i j ⊎ C k x u i j
        to (inl e) = inl e
        to (inr e) = inr ((here x i j f s q).0 e)

        from : Related p (snippet_at n k u) i j ⊎ C k x u i j → Crossed p (snippet_at n k u) rows set first i j
        from (inl e) = inl e
        from (inr e) = inr ((here x i j f s q).1 e)

    other : (l x y i j : ℕ) → y < n → i < 16 → ¬ ((l ≡ k) × (y ≡ u)) → Related p' (snippet_at n l y) i j ↔ (Related p (snippet_at n l y) i j ⊎ C l x y i j)
    other l x y i j r s f = (λ e. inl (subst (λ (w : ℕ). bit w j ≡ true) (same l y i r s f) e), from)
      where
        from : Related p (snippet_at n l y) i j ⊎ C l x y i j → Related p' (snippet_at n l y) i j
        from (inl e) = subst (λ (w : ℕ). bit w j ≡ true) (sym (same l y i r s f)) e
        from (inr e) = absurd (f (only l x y i j e))

    go : (l x y i j : ℕ) → y < n → Down t x y (2 ^ l) → i < 16 → j < 16 → Dec (l ≡ k) → Dec (y ≡ u)
        → Related p' (snippet_at n l y) i j ↔ (Related p (snippet_at n l y) i j ⊎ C l x y i j)
    go l x y i j r f s q (yes e) (yes g) =
        subst (λ (l : ℕ). Related p' (snippet_at n l y) i j ↔ (Related p (snippet_at n l y) i j ⊎ C l x y i j)) (sym e)
        (subst (λ (y : ℕ). Related p' (snippet_at n k y) i j ↔ (Related p (snippet_at n k y) i j ⊎ C k x y i j)) (sym g)
        (at x i j (subst (λ (y : ℕ). Down t x y (2 ^ k)) g (subst (λ (l : ℕ). Down t x y (2 ^ l)) e f)) s q))
    go l x y i j r f s q (no e) c = other l x y i j r s (λ (a, z). e a)
    go l x y i j r f s q (yes e) (no g) = other l x y i j r s (λ (a, z). g z)
