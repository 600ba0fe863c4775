-- The additions for one node are where the steps to it come from.
use Prim.Native.Nat.{ℕ, ◌<◌}
use mathlib.Core.Path.{◌≡◌, sym, ap, ◌∙◌, subst}
use mathlib.Core.Bool.{true}
use mathlib.Core.Logic.{◌⊎◌, inl, inr, ⊎_elim, ◌↔◌}
use mathlib.Core.List.{List}
use lib.ListN.{get_or}
use Rattle.bits.specs.Sets.{bit}
use Rattle.layout.specs.Part.{STAYS, POSITIONS}
use Rattle.layout.specs.Table.{LEFT, RIGHT, PARENT}
use Rattle.layout.specs.Words.{word}
use Rattle.machine.specs.declared.Machine.{Machine}
use Rattle.machine.specs.Walks.{Leads, left, right, from_left, from_right, stays}
use Rattle.matrices.specs.Matrices.{Exactly}
use Rattle.reach.specs.Work.{node_of, At, Added}
use Rattle.retracing.specs.Backward.{LinkedBothWays, Sources, Descends, Into, Before}
use Rattle.reach.proofs.Adding.{added_then, added_as}

-- ── The ways to a node ──
-- the nodes next to u, and the positions there that come to a position of s at u: by a bracketed test, by a step up from the left child or from the right child, and by a step down from the parent
pub record Ways (m : Machine) (n : ℕ) (p : List ℕ) (u s l r v here fromL fromR fromUp : ℕ) : Type 0 where
  pub left : l ≡ word p n LEFT u
  pub right : r ≡ word p n RIGHT u
  pub parent : v ≡ word p n PARENT u
  pub brackets : ℕ
  pub down : ℕ
  pub held : brackets ≡ word p n STAYS u
  pub downs : v < n → (j : ℕ) → (bit down j ≡ true) ↔ Descends m n p v u j
  pub stay : Exactly here (Sources m.rows s brackets)
  pub by_left : Exactly fromL (Sources m.rows s m.leftup)
  pub by_right : Exactly fromR (Sources m.rows s m.rightup)
  pub by_parent : Exactly fromUp (Sources m.rows s down)

module _ {m : Machine} {n : ℕ} {p : List ℕ} {u s l r v here fromL fromR fromUp : ℕ} (linked : LinkedBothWays n p) (inside : u < n)
    (w : Ways m n p u s l r v here fromL fromR fromUp) where
  Next : ℕ → ℕ → Type 0
  Next x i = ((At u here x i ⊎ At l fromL x i) ⊎ At r fromR x i) ⊎ At v fromUp x i

  comes : (x i : ℕ) → x < n → i < 16 → Next x i → Into m n p u s x i
  unfolding Next
  comes x i h k (inl (inl (inl (e, b)))) =
      let (j, q, f, g, t) = (w.stay i k).0 b in
      (j, q, f, t, stays (ap (λ (y : ℕ). bit y j) (ap (λ (y : ℕ). word p n STAYS y) e ∙ sym w.held) ∙ g) e)
  comes x i h k (inl (inl (inr (e, b)))) =
      let (j, q, f, g, t) = (w.by_left i k).0 b in let z : word p n LEFT u ≡ x = sym w.left ∙ sym e in
      (j, q, f, t, from_left g (linked.left u x inside h z) inside z)
  comes x i h k (inl (inr (e, b))) =
      let (j, q, f, g, t) = (w.by_right i k).0 b in let z : word p n RIGHT u ≡ x = sym w.right ∙ sym e in
      (j, q, f, t, from_right g (linked.right u x inside h z) inside z)
  comes x i h k (inr (e, b)) =
      let (j, q, f, g, t) = (w.by_parent i k).0 b in (
        j,
        q,
        f,
        t,
        ⊎_elim
            (λ (a, c). left a (ap (λ (y : ℕ). word p n LEFT y) e ∙ c) inside)
            (λ (a, c). right a (ap (λ (y : ℕ). word p n RIGHT y) e ∙ c) inside)
            ((w.downs (subst (λ (y : ℕ). y < n) e h) j).0 g),
      )

  -- by a step down from the parent x
  descend : (x i j : ℕ) → x < n → i < 16 → j < 16 → bit s j ≡ true → bit (get_or m.rows i 0) j ≡ true → word p n PARENT u ≡ x → Descends m n p x u j → At v fromUp x i
  descend x i j h k q f t e d =
      let z : x ≡ v = sym (w.parent ∙ e) in
      (z, (w.by_parent i k).1 (j, q, f, (w.downs (subst (λ (y : ℕ). y < n) z h) j).1 (subst (λ (y : ℕ). Descends m n p y u j) z d), t))

  leads : (x i j : ℕ) → x < n → i < 16 → j < 16 → bit s j ≡ true → bit (get_or m.rows i 0) j ≡ true → Leads m n p x j u → Next x i
  unfolding Next
  leads x i j h k q f t (left b e o) = inr (descend x i j h k q f t (linked.left x u h inside e) (inl (b, e)))
  leads x i j h k q f t (right b e o) = inr (descend x i j h k q f t (linked.right x u h inside e) (inr (b, e)))
  leads x i j h k q f t (from_left b e o c) = inl (inl (inr (sym (w.left ∙ c), (w.by_left i k).1 (j, q, f, b, t))))
  leads x i j h k q f t (from_right b e o c) = inl (inr (sym (w.right ∙ c), (w.by_right i k).1 (j, q, f, b, t)))
  leads x i j h k q f t (stays b e) =
      inl (inl (inl (e, (w.stay i k).1 (j, q, f, ap (λ (y : ℕ). bit y j) (w.held ∙ ap (λ (y : ℕ). word p n STAYS y) (sym e)) ∙ b, t))))

  pub added_leads : {d i₀ i₁ i₂ i₃ i₄ : ℕ} {p₁ p₂ p₃ p₄ : List ℕ} → Added (At u here) n d i₀ i₁ p p₁ → Added (At l fromL) n d i₁ i₂ p₁ p₂
      → Added (At r fromR) n d i₂ i₃ p₂ p₃ → Added (At v fromUp) n d i₃ i₄ p₃ p₄ → Added (Into m n p u s) n d i₀ i₄ p p₄
  unfolding Next
  added_leads a b c e = added_as (λ x i h k. (comes x i h k, λ (j, q, f, t, y). leads x i j h k q f t y)) (added_then (added_then (added_then a b) c) e)

-- ── One entry ──
-- u and s are the node and the positions of entry h
pub added_entry : {m : Machine} {n d len len' u s : ℕ} {p p' : List ℕ} (h : ℕ) → (u ≡ node_of p n h) × (s ≡ word p n POSITIONS h)
    → Added (Into m n p u s) n d len len' p p' → Added (Before m n p h) n d len len' p p'
added_entry {m} {n} {d} {len} {len'} {u} {s} {p} {p'} h (node, set) g =
    subst (λ (x : ℕ). Added (Into m n p x (word p n POSITIONS h)) n d len len' p p') node (subst (λ (x : ℕ). Added (Into m n p u x) n d len len' p p') set g)
