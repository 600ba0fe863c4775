-- The marks tell the skeleton.
use Prim.Native.Nat.{ℕ, ◌/◌, ◌<◌}
use mathlib.Core.Path.{◌≡◌, sym, subst}
use mathlib.Core.Logic.{◌⊎◌, inl, inr, ◌↔◌}
use mathlib.Core.Bool.{Bool, true, false}
use mathlib.Core.List.{List}
use native.Mathlib.Omega.{arith}
use Rattle.xpath.specs.Tree.{Tree, Child}
use Rattle.snippets.specs.Snippets.{Has, Skeleton}
use Rattle.snippets.specs.Marks.{Marked}
use Rattle.snippets.proofs.Marks.{BothMarked, skeleton_iff}
use Rattle.layout.specs.Groups.{MARKED}
use Rattle.layout.specs.Table.{LEFT, RIGHT, RANK, column}
use Rattle.layout.specs.Words.{word}
use Rattle.group_marks.specs.Groups.{IsNoted, Group}
use Rattle.group_marks.specs.Steps.{MarkedNode}
use Rattle.machine.proofs.Shape.{child_word, word_child}

module _ {t : Tree} {d : List ℕ} {n r : ℕ} {p : List ℕ} (g : Group t d n r p) where
  has_word : (v : ℕ) → v < n → Has t d v ↔ (word p n RANK v ≡ r)
  has_word v l = let e = g.shape.size in (λ h. (g.ranks v l).1 h.value, λ k. record { inside = omega arith; value = (g.ranks v l).0 k })

  chosen : (side : Bool) (v a : ℕ) → v < n → Child t side v a → Marked t d a → MarkedNode p n (word p n (column side) v)
  chosen side v a l c m =
      let e = g.shape.size in let i = c.inside in let k : a < n = omega arith in
      subst (λ x. MarkedNode p n x) (sym (child_word g.shape side l c)) (k, (g.marks a k).0 m)

  both_words : (v : ℕ) → v < n → BothMarked t d v ↔ (MarkedNode p n (word p n LEFT v) × MarkedNode p n (word p n RIGHT v))
  both_words v l = (
    λ (a, b, c, e, h, k). (chosen true v a l c h, chosen false v b l e k),
    λ (h, k). (
      word p n LEFT v,
      word p n RIGHT v,
      word_child g.shape true v l h.0,
      word_child g.shape false v l k.0,
      (g.marks (word p n LEFT v) h.0).1 h.1,
      (g.marks (word p n RIGHT v) k.0).1 k.1,
    ),
  )

  -- a node is in the skeleton if it has the rank or both its children are marked
  pub skeleton_words : (v : ℕ) → v < n → Skeleton t d v ↔ ((word p n RANK v ≡ r) ⊎ (MarkedNode p n (word p n LEFT v) × MarkedNode p n (word p n RIGHT v)))
  skeleton_words v l = (λ k. to ((skeleton_iff t d g.shape.formed v).0 k), λ k. (skeleton_iff t d g.shape.formed v).1 (from k))
    where
      to : Has t d v ⊎ BothMarked t d v → (word p n RANK v ≡ r) ⊎ (MarkedNode p n (word p n LEFT v) × MarkedNode p n (word p n RIGHT v))
      to (inl h) = inl ((has_word v l).0 h)
      to (inr h) = inr ((both_words v l).0 h)

      from : (word p n RANK v ≡ r) ⊎ (MarkedNode p n (word p n LEFT v) × MarkedNode p n (word p n RIGHT v)) → Has t d v ⊎ BothMarked t d v
      from (inl h) = inl ((has_word v l).1 h)
      from (inr h) = inr ((both_words v l).1 h)

  -- a node of another rank
  pub skeleton_other : (v : ℕ) → v < n → ¬ (word p n RANK v ≡ r) → Skeleton t d v ↔ (MarkedNode p n (word p n LEFT v) × MarkedNode p n (word p n RIGHT v))
  skeleton_other v l f = (λ s. to ((skeleton_words v l).0 s), λ h. (skeleton_words v l).1 (inr h))
    where
      to : (word p n RANK v ≡ r) ⊎ (MarkedNode p n (word p n LEFT v) × MarkedNode p n (word p n RIGHT v)) → MarkedNode p n (word p n LEFT v) × MarkedNode p n (word p n RIGHT v)
      to (inl h) = absurd (f h)
      to (inr h) = h

-- a block that is not noted has no node of the skeleton
pub empty_block : {t : Tree} {d : List ℕ} {n r : ℕ} {p : List ℕ} (u v : ℕ) → ¬ IsNoted p n v → u / 16 ≡ v / 16 → Group t d n r p → ¬ Skeleton t d u
empty_block {n = n} {p = p} u v f e g k = f (subst (λ (x : ℕ). word p n MARKED x / 2 ≡ 1) e (g.noted u k))
