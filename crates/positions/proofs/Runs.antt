-- A path reaches what some word of it runs to, and a word runs as a chain of following positions does.
use Prim.Native.Nat.{ℕ, suc, ◌+◌, ◌≤◌, ◌<◌}
use mathlib.Core.Path.{◌≡◌, refl, sym, subst}
use mathlib.Core.Logic.{◌⊎◌, inl, inr}
use mathlib.Core.List.{List, [], ◌∷◌, ◌++◌}
use lib.ListN.{length, length-append}
use native.Mathlib.Omega.{arith}
use Rattle.xpath.specs.Syntax.{XPath, empty, one, seq, union, star, Step, steps, size}
use Rattle.xpath.specs.Tree.{Tree}
use Rattle.xpath.specs.Meaning.{Reaches, Moves, Many}
use Rattle.positions.specs.Positions.{Word, Numbered, Several, none, more}
use Rattle.positions.proofs.Glushkov.{In}

-- ── Numbered lists ──
pub num_in : (xs : List Step) (b j : ℕ) (s : Step) → Numbered b xs j s → (b ≤ j) × (j < b + length xs)
num_in [] b j s h = absurd h
num_in (x ∷ xs) b j s (inl h) = let e = h.0 in omega arith
num_in (x ∷ xs) b j s (inr h) = let r = num_in xs (suc b) j s h in omega arith

pub num_left : (xs ys : List Step) (b j : ℕ) (s : Step) → Numbered b xs j s → Numbered b (xs ++ ys) j s
num_left [] ys b j s h = absurd h
num_left (x ∷ xs) ys b j s (inl h) = inl h
num_left (x ∷ xs) ys b j s (inr h) = inr (num_left xs ys (suc b) j s h)

pub num_right : (xs ys : List Step) (b j : ℕ) (s : Step) → Numbered (b + length xs) ys j s → Numbered b (xs ++ ys) j s
num_right [] ys b j s h = let e : b + 0 ≡ b = omega arith in subst (λ x. Numbered x ys j s) e h
num_right (x ∷ xs) ys b j s h =
    let e : b + suc (length xs) ≡ suc b + length xs = omega arith in
    inr (num_right xs ys (suc b) j s (subst (λ x. Numbered x ys j s) e h))

pub num_split : (xs ys : List Step) (b j : ℕ) (s : Step) → Numbered b (xs ++ ys) j s → Numbered b xs j s ⊎ Numbered (b + length xs) ys j s
num_split [] ys b j s h = let e : b ≡ b + 0 = omega arith in inr (subst (λ x. Numbered x ys j s) e h)
num_split (x ∷ xs) ys b j s (inl h) = inl (inl h)
num_split (x ∷ xs) ys b j s (inr h) = go (num_split xs ys (suc b) j s h)
  where
    go : Numbered (suc b) xs j s ⊎ Numbered (suc b + length xs) ys j s → (((j ≡ b) × (x ≡ s)) ⊎ Numbered (suc b) xs j s) ⊎ Numbered (b + suc (length xs)) ys j s
    go (inl g) = inl (inr g)
    go (inr g) = let e : suc b + length xs ≡ b + suc (length xs) = omega arith in inr (subst (λ x. Numbered x ys j s) e g)

pub num_low : (xs ys : List Step) (b j : ℕ) (s : Step) → j < b + length xs → Numbered b (xs ++ ys) j s → Numbered b xs j s
num_low xs ys b j s r h = go (num_split xs ys b j s h)
  where
    go : Numbered b xs j s ⊎ Numbered (b + length xs) ys j s → Numbered b xs j s
    go (inl g) = g
    go (inr g) = let k = num_in ys (b + length xs) j s g in absurd (omega arith)

pub num_high : (xs ys : List Step) (b j : ℕ) (s : Step) → b + length xs ≤ j → Numbered b (xs ++ ys) j s → Numbered (b + length xs) ys j s
num_high xs ys b j s r h = go (num_split xs ys b j s h)
  where
    go : Numbered b xs j s ⊎ Numbered (b + length xs) ys j s → Numbered (b + length xs) ys j s
    go (inl g) = let k = num_in xs b j s g in absurd (omega arith)
    go (inr g) = g

module _ (t : Tree) (Num : ℕ → Step → Type 0) where
  -- the steps numbered ws lead from v to w
  abbrev pub Run : List ℕ → ℕ → ℕ → Type 0
  Run [] v w = v ≡ w
  Run (j ∷ ws) v w = (u : ℕ) × (s : Step) × Num j s × Moves t s v u × Run ws u w

  run_join : (xs ys : List ℕ) (v u w : ℕ) → Run xs v u → Run ys u w → Run (xs ++ ys) v w
  run_join [] ys v u w h g = subst (λ x. Run ys x w) (sym h) g
  run_join (j ∷ xs) ys v u w (a, s, n, m, h) g = (a, s, n, m, run_join xs ys a u w h g)

  run_split : (xs ys : List ℕ) (v w : ℕ) → Run (xs ++ ys) v w → (u : ℕ) × Run xs v u × Run ys u w
  run_split [] ys v w h = (v, refl, h)
  run_split (j ∷ xs) ys v w (a, s, n, m, h) = let (u, g, k) = run_split xs ys a w h in (u, (a, s, n, m, g), k)

  pub reaches_run : (P : XPath) (b : ℕ) → ((j : ℕ) (s : Step) → Numbered b (steps P) j s → Num j s)
      → (v w : ℕ) → Reaches t P v w → (ws : List ℕ) × Word P b ws × Run ws v w
  reaches_run empty b f v w h = ([], refl, h)
  reaches_run (one s) b f v w h = (b ∷ [], refl, (w, s, f b s (inl (refl, refl)), h, refl))
  reaches_run (seq P Q) b f v w (u, h, g) =
      let (xs, p, x) = reaches_run P b (λ j s n. f j s (num_left (steps P) (steps Q) b j s n)) v u h in
      let (ys, q, y) = reaches_run Q (b + size P) (λ j s n. f j s (num_right (steps P) (steps Q) b j s n)) u w g in
      (xs ++ ys, (xs, ys, refl, p, q), run_join xs ys v u w x y)
  reaches_run (union P Q) b f v w (inl h) =
      let (xs, p, x) = reaches_run P b (λ j s n. f j s (num_left (steps P) (steps Q) b j s n)) v w h in (xs, inl p, x)
  reaches_run (union P Q) b f v w (inr h) =
      let (xs, p, x) = reaches_run Q (b + size P) (λ j s n. f j s (num_right (steps P) (steps Q) b j s n)) v w h in (xs, inr p, x)
  reaches_run (star P) b f v w h = go (λ x y k. reaches_run P b f x y k) v w h
    where
      go : ((x y : ℕ) → Reaches t P x y → (ws : List ℕ) × Word P b ws × Run ws x y) → (v w : ℕ) → Many (λ x y. Reaches t P x y) v w
          → (ws : List ℕ) × Several (λ u. Word P b u) ws × Run ws v w
      go ih v w Many.none = ([], none, refl)
      go ih v w (Many.more {u = u} k r) =
          let (xs, p, x) = ih v u k in let (ys, q, y) = go ih u w r in
          (xs ++ ys, more p q, run_join xs ys v u w x y)

  pub run_reaches : (P : XPath) (b : ℕ) → ((j : ℕ) (s : Step) → In P b j → Num j s → Numbered b (steps P) j s)
      → (ws : List ℕ) (v w : ℕ) → Word P b ws → Run ws v w → Reaches t P v w
  run_reaches empty b f ws v w h r = subst (λ x. Run x v w) h r
  run_reaches (one s) b f ws v w h r = go (subst (λ x. Run x v w) h r)
    where
      same : (s' : Step) (u : ℕ) → ((b ≡ b) × (s ≡ s')) ⊎ ⊥ → Moves t s' v u → Moves t s v u
      same s' u (inl e) m = subst (λ x. Moves t x v u) (sym e.1) m
      same s' u (inr e) m = absurd e

      go : Run (b ∷ []) v w → Moves t s v w
      go (u, s', n, m, e) = subst (λ x. Moves t s v x) e (same s' u (f b s' (omega arith) n) m)
  run_reaches (seq P Q) b f ws v w (xs, ys, e, p, q) r =
      let (u, x, y) = run_split xs ys v w (subst (λ l. Run l v w) e r) in (
        u,
        run_reaches P b (λ j s i n. num_low (steps P) (steps Q) b j s i.1 (f j s (omega (arith, length-append (steps P) (steps Q))) n)) xs v u p x,
        run_reaches Q (b + size P) (λ j s i n. num_high (steps P) (steps Q) b j s i.0 (f j s (omega (arith, length-append (steps P) (steps Q))) n)) ys u w q y,
      )
  run_reaches (union P Q) b f ws v w (inl p) r =
      inl (run_reaches P b (λ j s i n. num_low (steps P) (steps Q) b j s i.1 (f j s (omega (arith, length-append (steps P) (steps Q))) n)) ws v w p r)
  run_reaches (union P Q) b f ws v w (inr p) r =
      inr (run_reaches Q (b + size P) (λ j s i n. num_high (steps P) (steps Q) b j s i.0 (f j s (omega (arith, length-append (steps P) (steps Q))) n)) ws v w p r)
  run_reaches (star P) b f ws v w p r = go (λ xs x y k l. run_reaches P b f xs x y k l) ws v w p r
    where
      go : ((xs : List ℕ) (x y : ℕ) → Word P b xs → Run xs x y → Reaches t P x y) → (ws : List ℕ) (v w : ℕ) → Several (λ u. Word P b u) ws → Run ws v w
          → Many (λ x y. Reaches t P x y) v w
      go ih ws v w none r = subst (λ x. Many (λ x y. Reaches t P x y) v x) r Many.none
      go ih ws v w (more {u = xs} {w = ys} k l) r =
          let (u, x, y) = run_split xs ys v w r in
          Many.more (ih xs v u k x) (go ih ys u w l y)
