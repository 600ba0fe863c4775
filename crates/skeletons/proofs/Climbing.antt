-- The way up from a skeleton node y to the first skeleton node above it.
use Prim.Native.Nat.{ℕ, suc, ◌+◌, ◌≤◌, ◌<◌}
use mathlib.Core.Path.{◌≡◌, sym, ◌∙◌, subst}
use mathlib.Core.Logic.{◌⊎◌, inl, inr}
use mathlib.Core.Bool.{Bool}
use mathlib.Core.List.{List}
use native.Mathlib.Omega.{arith}
use Rattle.xpath.specs.Tree.{Tree, Child, Under}
use Rattle.xpath.proofs.Trees.{child_after}
use Rattle.snippets.specs.Snippets.{Skeleton}
use Rattle.snippets.proofs.Nearest.{Climbed, climbed_none, climbed_step, climbed_top, edge_iff}
use Rattle.layout.specs.Table.{PARENT}
use Rattle.layout.specs.Words.{NONE, word}
use Rattle.machine.specs.Shape.{Shape}
use Rattle.group_marks.specs.Groups.{Group}
use Rattle.skeletons.specs.Skeletons.{Arrives, Ascent, Topmost}
use Rattle.machine.proofs.Shape.{parent_case}

-- ── The way so far ──
-- the way has reached x by x's child c, m edges above y, and met no skeleton node before; or it has left the tree and met none
abbrev pub OnWay : Tree → List ℕ → ℕ → ℕ → ℕ → ℕ → Type 0
OnWay t d y x m c =
    (Climbed t d x y m × ((side : Bool) × Child t side x c × Under t c y))
    ⊎ ((x ≡ NONE) × ((s : ℕ) → Skeleton t d s → Under t s y → s ≡ y))

pub record Climbing (n r y x m c : ℕ) (p : List ℕ) : Type 0 where
  pub node : (x < n) ⊎ (x ≡ NONE)
  pub child : c < n
  pub proper : 0 < m
  -- each edge leads to a smaller number, so there are at most y of them
  pub short : m ≤ y + 1
  pub low : x < n → x + m ≤ y
  pub way : (t : Tree) (d : List ℕ) → Group t d n r p → OnWay t d y x m c

-- ── One edge up ──
-- one edge up from z, which is y or no skeleton node
up : {t : Tree} {d : List ℕ} {n r y z m x : ℕ} {p : List ℕ} → Group t d n r p → z < n → Climbed t d z y m → (0 < m → ¬ Skeleton t d z) → x ≡ word p n PARENT z → OnWay t d y x (suc m) z
up {t} {d} {n} {r} {y} {z} {m} {x} {p} g l h f e = go (parent_case g.shape z l)
  where
    go : ((z ≡ 0) × (word p n PARENT z ≡ NONE)) ⊎ ((word p n PARENT z < z) × Child t (t.is_left z) (word p n PARENT z) z) → OnWay t d y x (suc m) z
    go (inl (o, none)) = inr (e ∙ none, climbed_top t d g.shape.formed y m (subst (λ i. Climbed t d i y m) o h) (subst (λ i. 0 < m → ¬ Skeleton t d i) o f))
    go (inr (i, k)) =
        let c : Child t (t.is_left z) x z = subst (λ j. Child t (t.is_left z) j z) (sym e) k in
        inl (climbed_step t d g.shape.formed (t.is_left z) x z y m c h f, (t.is_left z, c, (m, h.far)))

-- a parent is a smaller node, or none
smaller : {t : Tree} {n z x : ℕ} {p : List ℕ} → Shape t n p → z < n → x ≡ word p n PARENT z → (x < z) ⊎ (x ≡ NONE)
smaller {t} {n} {z} {x} {p} s l e = go (parent_case s z l)
  where
    go : ((z ≡ 0) × (word p n PARENT z ≡ NONE)) ⊎ ((word p n PARENT z < z) × Child t (t.is_left z) (word p n PARENT z) z) → (x < z) ⊎ (x ≡ NONE)
    go (inl (o, none)) = inr (e ∙ none)
    go (inr (i, k)) = inl (omega arith)

node_of : {n z x : ℕ} → z < n → (x < z) ⊎ (x ≡ NONE) → (x < n) ⊎ (x ≡ NONE)
node_of l (inl i) = inl (omega arith)
node_of l (inr e) = inr e

low_of : {n z x y : ℕ} (m : ℕ) → n ≤ 4096 → z + m ≤ y → (x < z) ⊎ (x ≡ NONE) → x < n → x + (m + 1) ≤ y
low_of m few k (inl i) l = omega arith
low_of m few k (inr e) l = absurd (omega arith)

-- ── Setting out, and going on ──
module _ {t : Tree} {n : ℕ} {p : List ℕ} (s : Shape t n p) {r y : ℕ} where
  pub climbing_none : {x : ℕ} → y < n → x ≡ word p n PARENT y → Climbing n r y x 1 y p
  climbing_none {x} l e =
      record {
        node = node_of l (smaller s l e);
        child = l;
        proper = omega arith;
        short = omega arith;
        low = low_of 0 s.few (omega arith) (smaller s l e);
        way = λ t d g. up g l (climbed_none t d g.shape.formed y) (λ i. absurd (omega arith)) e;
      }

  pub climbing_step : {x m c z : ℕ} → Climbing n r y x m c p → x < n → ((t : Tree) (d : List ℕ) → Group t d n r p → ¬ Skeleton t d x) → z ≡ word p n PARENT x → Climbing n r y z (m + 1) x p
  climbing_step {x} {m} {c} {z} h l f e =
      let a = h.low l in
      record {
        node = node_of l (smaller s l e);
        child = l;
        proper = omega arith;
        short = omega arith;
        low = low_of m s.few a (smaller s l e);
        way = λ t d g. go t d g (h.way t d g);
      }
    where
      go : (t : Tree) (d : List ℕ) → Group t d n r p → OnWay t d y x m c → OnWay t d y z (m + 1) x
      go t d g (inl (k, i)) = let o : suc m ≡ m + 1 = omega arith in subst (λ j. OnWay t d y z j x) o (up g l k (λ i. f t d g) e)
      go t d g (inr (o, k)) = let few = s.few in absurd (omega arith)

-- ── Where the way ends ──
-- above the root: x is no node, whatever number it is
pub way_top : {n r y x m c : ℕ} {p : List ℕ} → ((t : Tree) (d : List ℕ) → Group t d n r p → OnWay t d y x m c) → n ≤ x → Topmost n r y p
way_top {y = y} {x} {m} {c} way end t d g k = go (way t d g)
  where
    go : OnWay t d y x m c → (s : ℕ) → Skeleton t d s → Under t s y → s ≡ y
    go (inl (i, (side, j, u))) = let a = child_after g.shape.formed j in let b = j.inside in let e = g.shape.size in absurd (omega arith)
    go (inr (none, top)) = top

module _ {n r y x m c : ℕ} {p : List ℕ} (h : Climbing n r y x m c p) where
  -- at a skeleton node
  pub climbing_at : y < n → x < n → ((t : Tree) (d : List ℕ) → Group t d n r p → Skeleton t d x) → Ascent n r y x m c p
  climbing_at l node met =
      let a = h.short in
      record { node = node; child = h.child; proper = h.proper; short = omega arith; arrives = λ t d g k. go t d g k (h.way t d g) }
    where
      go : (t : Tree) (d : List ℕ) → Group t d n r p → Skeleton t d y → OnWay t d y x m c → Arrives t d y x m c
      go t d g k (inl (i, j)) = ((edge_iff t d g.shape.formed x y m).1 (met t d g, k, h.proper, i), j)
      go t d g k (inr (none, top)) = let few = g.shape.few in absurd (omega arith)

  -- above the root
  pub climbing_top : n ≤ x → Topmost n r y p
  climbing_top = way_top h.way

  -- where the next node belongs to the skeleton of each group: at it, or above the root if there is none
  pub climbing_met : y < n → ((t : Tree) (d : List ℕ) → Group t d n r p → Skeleton t d x) → ((x < n) × Ascent n r y x m c p) ⊎ ((x ≡ NONE) × Topmost n r y p)
  climbing_met l met = go h.node
    where
      go : (x < n) ⊎ (x ≡ NONE) → ((x < n) × Ascent n r y x m c p) ⊎ ((x ≡ NONE) × Topmost n r y p)
      go (inl i) = inl (i, climbing_at l i met)
      go (inr e) = inr (e, λ t d g. let few = g.shape.few in climbing_top (omega arith) t d g)
