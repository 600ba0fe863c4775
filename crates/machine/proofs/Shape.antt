-- The links of a tree in a part: what they say, and that they stay where later columns change.
use Prim.Native.Nat.{ℕ, ◌≤◌, ◌<◌}
use mathlib.Core.Path.{◌≡◌, refl, sym, ◌∙◌, subst}
use mathlib.Core.Logic.{◌⊎◌, inl, inr}
use mathlib.Core.Bool.{Bool, true, false}
use mathlib.Core.List.{List}
use native.Mathlib.Omega.{arith}
use Rattle.xpath.specs.Syntax.{Op, XPath}
use Rattle.xpath.specs.Tree.{Tree, Child, WellFormed}
use Rattle.xpath.proofs.Trees.{one_child}
use Rattle.layout.specs.Part.{STAYS}
use Rattle.layout.specs.Table.{PARENT, RANK, column}
use Rattle.layout.specs.Words.{NONE, word, Within}
use Rattle.layout.proofs.Frames.{before_within}
use Rattle.table.specs.Links.{Points}
use Rattle.machine.specs.Meaning.{Drawn, RanksTell}
use Rattle.machine.proofs.Kept.{drawn_same, ranks_kept}
use Rattle.machine.specs.Shape.{Shape}

-- ── The links, and that they stay ──
pub drawn_shape : {P R : XPath} {t : Tree} {n : ℕ} {p : List ℕ} → WellFormed t → Drawn P R t n p → Shape t n p
drawn_shape wf d = record { formed = wf; size = d.size; few = d.few; children = d.children; parents = d.parents }

side_early : (side : Bool) → column side < PARENT
side_early true = omega arith
side_early false = omega arith

module _ (t : Tree) {n c d : ℕ} {p p' : List ℕ} (late : RANK ≤ c) (w : Within n c d p p') where
  children_within : ((side : Bool) (v : ℕ) → v < n → Points (Child t side v) (word p n (column side) v))
      → (side : Bool) (v : ℕ) → v < n → Points (Child t side v) (word p' n (column side) v)
  children_within h side v r = let e = side_early side in subst (λ x. Points (Child t side v) x) (sym (before_within w (column side) v (omega arith) r)) (h side v r)

  parents_within : ((v : ℕ) → v < n → ((v ≡ 0) × (word p n PARENT v ≡ NONE)) ⊎ ((0 < v) × (word p n PARENT v ≡ t.parent v)))
      → (v : ℕ) → v < n → ((v ≡ 0) × (word p' n PARENT v ≡ NONE)) ⊎ ((0 < v) × (word p' n PARENT v ≡ t.parent v))
  parents_within h v r = subst (λ x. ((v ≡ 0) × (x ≡ NONE)) ⊎ ((0 < v) × (x ≡ t.parent v))) (sym (before_within w PARENT v (omega arith) r)) (h v r)

pub shape_within : {t : Tree} {n c d : ℕ} {p p' : List ℕ} → RANK ≤ c → Within n c d p p' → Shape t n p → Shape t n p'
shape_within {t} l w s =
    record { formed = s.formed; size = s.size; few = s.few; children = children_within t l w s.children; parents = parents_within t l w s.parents }

-- so does all that is drawn
pub drawn_within : {P R : XPath} {t : Tree} {n c d : ℕ} {p p' : List ℕ} → STAYS < c → Within n c d p p' → Drawn P R t n p → Drawn P R t n p'
drawn_within l w = drawn_same (λ c v q r. before_within w c v (omega arith) r)

-- and what the ranks tell
pub ranks_within : (o : Op) (t : Tree) {n c d : ℕ} {p p' : List ℕ} → RANK < c → Within n c d p p' → RanksTell o t n p → RanksTell o t n p'
ranks_within o t {p = p} {p'} l w = ranks_kept o t p p' (λ v r. before_within w RANK v l r)

-- ── What the links say ──
module _ {t : Tree} {n : ℕ} {p : List ℕ} (s : Shape t n p) where
  -- the word for the parent of a child
  pub parent_of_lem : {side : Bool} {u v : ℕ} → Child t side u v → word p n PARENT v ≡ u
  parent_of_lem {side} {u} {v} c = let e = s.size in let i = c.inside in go (s.parents v (omega arith))
    where
      go : ((v ≡ 0) × (word p n PARENT v ≡ NONE)) ⊎ ((0 < v) × (word p n PARENT v ≡ t.parent v)) → word p n PARENT v ≡ u
      go (inl (e, none)) = let i = c.inner in absurd (omega arith)
      go (inr (h, e)) = e ∙ c.above

  -- a node's word for the parent: none for the root, and else the node whose child it is
  pub parent_case : (v : ℕ) → v < n
      → ((v ≡ 0) × (word p n PARENT v ≡ NONE)) ⊎ ((word p n PARENT v < v) × Child t (t.is_left v) (word p n PARENT v) v)
  parent_case v r = go (s.parents v r)
    where
      go : ((v ≡ 0) × (word p n PARENT v ≡ NONE)) ⊎ ((0 < v) × (word p n PARENT v ≡ t.parent v))
          → ((v ≡ 0) × (word p n PARENT v ≡ NONE)) ⊎ ((word p n PARENT v < v) × Child t (t.is_left v) (word p n PARENT v) v)
      go (inl h) = inl h
      go (inr (h, e)) =
          let l = s.size in let u = s.formed.upwards v h (omega arith) in
          inr (omega arith, record { inner = h; inside = omega arith; above = sym e; which = refl })

  -- the word for a child
  pub child_word : (side : Bool) {v u : ℕ} → v < n → Child t side v u → word p n (column side) v ≡ u
  child_word side {v} {u} r c = go (s.children side v r)
    where
      go : Points (Child t side v) (word p n (column side) v) → word p n (column side) v ≡ u
      go (inl k) = one_child s.formed side k c
      go (inr (e, f)) = absurd (f u c)

  -- a node's word for a child that is a node
  pub word_child : (side : Bool) (v : ℕ) → v < n → word p n (column side) v < n → Child t side v (word p n (column side) v)
  word_child side v r l = go (s.children side v r)
    where
      go : Points (Child t side v) (word p n (column side) v) → Child t side v (word p n (column side) v)
      go (inl k) = k
      go (inr (e, f)) = let few = s.few in absurd (omega arith)
