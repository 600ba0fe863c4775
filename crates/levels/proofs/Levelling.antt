-- One pass over the nodes: the levels so far, and the greatest of them.
use Prim.Native.Nat.{ℕ, zero, suc, ◌+◌, ◌≤◌, ◌<◌, max}
use Rattle.std.specs.Ordering.{ord_max, nat_cmp}
use Rattle.std.proofs.lemmas.Grind.{common_steps}
use mathlib.Core.Path.{◌≡◌, ap, ◌∙◌, subst}
use mathlib.Core.Logic.{◌⊎◌, inl, inr}
use mathlib.Core.List.{List, [], ◌∷◌}
use native.Mathlib.Decide.{ℕ_discrete}
use native.Mathlib.Omega.{arith}
use Rattle.xpath.specs.Tree.{Tree, Child, Down, deeper}
use Rattle.xpath.proofs.Trees.{child_after, down_le}
use Rattle.layout.specs.Groups.{LEVEL}
use Rattle.layout.specs.Table.{PARENT}
use Rattle.layout.specs.Words.{NONE, cell, word, Wrote, Within}
use Rattle.layout.proofs.Frames.{within_none, within_then, within_put, before_within}
use Rattle.machine.specs.Shape.{Shape}
use Rattle.machine.proofs.Shape.{shape_within, parent_of_lem, parent_case}
use Rattle.levels.specs.Levels.{Levelled}

-- ── The levels so far ──
-- a word of a node that a word tells
pub known : (p : List ℕ) (n c : ℕ) {u v x : ℕ} → x ≡ word p n c u → u ≡ v → x ≡ word p n c v
known p n c e f = e ∙ ap (λ (z : ℕ). word p n c z) f

-- the nodes below v have their levels, and r is the greatest of them
pub record Levelling (n v r : ℕ) (p p' : List ℕ) : Type 0 where
  pub inside : v ≤ n
  pub some : 0 < r
  pub few : r ≤ v
  pub within : Within n LEVEL (suc LEVEL) p p'
  pub greatest : (u : ℕ) → u < v → word p' n LEVEL u ≤ r
  -- a way down to a node has fewer edges than the node's level
  pub ways : (t : Tree) → Shape t n p → (x y l : ℕ) → y < v → Down t x y l → l < word p' n LEVEL y

pub some_nodes : {t : Tree} {n : ℕ} {p : List ℕ} → Shape t n p → 0 < n
some_nodes s = let e = s.size in let h = s.formed.rooted in omega arith

-- ── The root ──
pub root_within : {n : ℕ} {p p₁ : List ℕ} → 0 < n → Wrote ((cell n LEVEL 0, 1) ∷ []) p p₁ → Within n LEVEL (suc LEVEL) p p₁
root_within h w = within_put (omega arith) (omega arith) h w

-- p₁ is the part with the root's level
pub levelling_root : {n : ℕ} {p p₁ : List ℕ} → 0 < n → Wrote ((cell n LEVEL 0, 1) ∷ []) p p₁ → Levelling n 1 1 p₁ p₁
levelling_root {n} {p} {p₁} h w = record {
  inside = h;
  some = omega arith;
  few = omega arith;
  within = within_none p₁;
  greatest = λ u l. let e = root u l in omega arith;
  ways = λ t s x y l i d. let e = root y i in let f = down_le t s.formed d in omega arith;
}
  where
    root : (u : ℕ) → u < 1 → word p₁ n LEVEL u ≡ 1
    root u l = let e : u ≡ 0 = omega arith in ap (λ (z : ℕ). word p₁ n LEVEL z) e ∙ w.here.0

-- ── One node more ──
-- the parent of a node that is not the root has its level
pub parent_known : {t : Tree} {n v r : ℕ} {p p₁ : List ℕ} → Shape t n p → Levelling n v r p p₁ → v < n → (word p₁ n PARENT v < v) × (word p₁ n LEVEL (word p₁ n PARENT v) ≤ r)
parent_known {t} {n} {v} {r} {p} {p₁} s g l = go (parent_case s v l)
  where
    go : ((v ≡ 0) × (word p n PARENT v ≡ NONE)) ⊎ ((word p n PARENT v < v) × Child t (t.is_left v) (word p n PARENT v) v) → (word p₁ n PARENT v < v) × (word p₁ n LEVEL (word p₁ n PARENT v) ≤ r)
    go (inl (e, none)) = let a = g.some in let b = g.few in absurd (omega arith)
    go (inr (h, c)) = let e = before_within g.within PARENT v (omega arith) l in let k : word p₁ n PARENT v < v = omega arith in (k, g.greatest (word p₁ n PARENT v) k)

-- the greater of two numbers, in the words of `Ord::max`
pub greater_is : (a b : ℕ) → ord_max nat_cmp a b ≡ max a b
greater_is a b = grind (arith, common_steps)

pub levelling_step : {t : Tree} {n v r l r' : ℕ} {p p₁ p₂ : List ℕ} → Shape t n p → Levelling n v r p p₁ → v < n → l ≡ suc (word p₁ n LEVEL (word p₁ n PARENT v)) → Wrote ((cell n LEVEL v, l) ∷ []) p₁ p₂
    → r' ≡ max r l → Levelling n (v + 1) r' p p₂
levelling_step {t = t₀} {n} {v} {r} {l} {r'} {p} {p₁} {p₂} s₀ g node e w greater = record {
  inside = omega arith;
  some = let a = g.some in omega arith;
  few = let a = g.few in let (f, h) = parent_known s₀ g node in omega arith;
  within = within_then g.within (within_put (omega arith) (omega arith) node w);
  greatest = λ u i. high u i (ℕ_discrete u v);
  ways = λ t s x y m i d. way t s x y m i d (ℕ_discrete y v);
}
  where
    before : (u : ℕ) → u < v → word p₂ n LEVEL u ≡ word p₁ n LEVEL u
    before u i = w.other (cell n LEVEL u) (omega arith, tt)

    high : (u : ℕ) → u < v + 1 → Dec (u ≡ v) → word p₂ n LEVEL u ≤ r'
    high u i (yes q) = let a = ap (λ (z : ℕ). word p₂ n LEVEL z) q ∙ w.here.0 in omega arith
    high u i (no q) = let k : u < v = omega arith in let a = before u k in let b = g.greatest u k in omega arith

    at : (t : Tree) → Shape t n p → (x m : ℕ) → Down t x v m → m < l
    at t s x zero d = omega arith
    at t s x (suc m) (deeper {y = y} d c) =
        let k = child_after s.formed c in
        let q = before_within g.within PARENT v (omega arith) node ∙ parent_of_lem s c in
        let a = ap (λ (z : ℕ). word p₁ n LEVEL z) q in
        let b = g.ways t s x y m k d in
        omega arith

    way : (t : Tree) → Shape t n p → (x y m : ℕ) → y < v + 1 → Down t x y m → Dec (y ≡ v) → m < word p₂ n LEVEL y
    way t s x y m i d (yes q) =
        let a = ap (λ (z : ℕ). word p₂ n LEVEL z) q ∙ w.here.0 in
        let b = at t s x m (subst (λ (z : ℕ). Down t x z m) q d) in
        omega arith
    way t s x y m i d (no q) = let k : y < v = omega arith in let a = before y k in let b = g.ways t s x y m k d in omega arith

-- ── All nodes ──
-- p is the part at first, p₁ with the root's level, and p₂ with all levels
pub levelling_all : {n v r : ℕ} {p p₁ p₂ : List ℕ} → 0 < n → Wrote ((cell n LEVEL 0, 1) ∷ []) p p₁ → ¬ (v < n) → Levelling n v r p₁ p₂ → Levelled n p p₂ r
levelling_all {n} {v} {r} {p} {p₁} {p₂} nodes w whole g = record {
  within = within_then (root_within nodes w) g.within;
  some = g.some;
  few = let a = g.few in let b = g.inside in omega arith;
  ways = λ t s. way t (shape_within (omega arith) (root_within nodes w) s);
}
  where
    way : (t : Tree) → Shape t n p₁ → (x y l : ℕ) → Down t x y l → l < r
    way t s x y zero d = g.some
    way t s x y (suc l) (deeper d c) =
        let i = c.inside in let e = s.size in
        let k : y < v = omega arith in
        let a = g.ways t s x y (suc l) k (deeper d c) in let b = g.greatest y k in
        omega arith
