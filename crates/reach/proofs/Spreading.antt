-- The additions for one node are where the steps lead from it.
use Prim.Native.Nat.{ℕ, ◌<◌}
use mathlib.Core.Path.{◌≡◌, sym, ap, ◌∙◌, subst}
use mathlib.Core.Bool.{true}
use mathlib.Core.Logic.{◌⊎◌, inl, inr, ⊎_elim, ⊎_map, ◌↔◌}
use mathlib.Core.List.{List}
use Rattle.bits.specs.Sets.{bit, or, and}
use Rattle.layout.specs.Part.{STAYS}
use Rattle.layout.specs.Table.{LEFT, RIGHT, PARENT}
use Rattle.layout.specs.Words.{word}
use Rattle.machine.specs.declared.Machine.{Machine}
use Rattle.machine.specs.Walks.{Leads, left, right, from_left, from_right, stays}
use Rattle.reach.specs.Work.{Added, At, Climbs, Onward}
use Rattle.matrices.proofs.Members.{or_cases, or_left, or_right, and_both, and_parts}
use Rattle.reach.proofs.Adding.{added_then, added_as}

-- the members of a union, where those of each set are told
pub either : {A B : ℕ → Type 0} (a b r : ℕ) → ((j : ℕ) → (bit a j ≡ true) ↔ A j) → ((j : ℕ) → (bit b j ≡ true) ↔ B j)
    → ((j : ℕ) → bit r j ≡ or (bit a j) (bit b j)) → (j : ℕ) → (bit r j ≡ true) ↔ (A j ⊎ B j)
either a b r f g union j = (
  λ e. ⊎_map (f j).0 (g j).0 (or_cases (bit a j) (bit b j) (sym (union j) ∙ e)),
  ⊎_elim (λ x. union j ∙ or_left (bit a j) (bit b j) ((f j).1 x)) (λ x. union j ∙ or_right (bit a j) (bit b j) ((g j).1 x)),
)

-- the nodes next to v, and the positions of f that stay and that go to the left child, to the right child and to the parent
pub record Ways (m : Machine) (n : ℕ) (p : List ℕ) (v f l r u here to_left to_right back : ℕ) : Type 0 where
  pub left : l ≡ word p n LEFT v
  pub right : r ≡ word p n RIGHT v
  pub parent : u ≡ word p n PARENT v
  pub brackets : ℕ
  pub up : ℕ
  pub held : brackets ≡ word p n STAYS v
  pub climbing : u < n → (j : ℕ) → (bit up j ≡ true) ↔ Climbs m n p v u j
  pub stay : (j : ℕ) → bit here j ≡ and (bit f j) (bit brackets j)
  pub go_left : (j : ℕ) → bit to_left j ≡ and (bit f j) (bit m.left j)
  pub go_right : (j : ℕ) → bit to_right j ≡ and (bit f j) (bit m.right j)
  pub go_up : (j : ℕ) → bit back j ≡ and (bit f j) (bit up j)

module _ {m : Machine} {n : ℕ} {p : List ℕ} {v f l r u here to_left to_right back : ℕ} (w : Ways m n p v f l r u here to_left to_right back) where
  Next : ℕ → ℕ → Type 0
  Next x j = ((At v here x j ⊎ At l to_left x j) ⊎ At r to_right x j) ⊎ At u back x j

  led : (x j : ℕ) → x < n → Next x j → Onward m n p v f x j
  unfolding Next
  led x j h (inl (inl (inl (e, b)))) =
      let (g, s) = and_parts (bit f j) (bit w.brackets j) (sym (w.stay j) ∙ b) in
      (g, stays (ap (λ (y : ℕ). bit y j) (sym w.held) ∙ s) (sym e))
  led x j h (inl (inl (inr (e, b)))) =
      let (g, s) = and_parts (bit f j) (bit m.left j) (sym (w.go_left j) ∙ b) in
      (g, left s (sym w.left ∙ sym e) h)
  led x j h (inl (inr (e, b))) =
      let (g, s) = and_parts (bit f j) (bit m.right j) (sym (w.go_right j) ∙ b) in
      (g, right s (sym w.right ∙ sym e) h)
  led x j h (inr (e, b)) =
      let (g, s) = and_parts (bit f j) (bit w.up j) (sym (w.go_up j) ∙ b) in
      let q : word p n PARENT v ≡ x = sym w.parent ∙ sym e in (
        g,
        ⊎_elim
            (λ (a, c). from_left a q h (ap (λ (y : ℕ). word p n LEFT y) e ∙ c))
            (λ (a, c). from_right a q h (ap (λ (y : ℕ). word p n RIGHT y) e ∙ c))
            ((w.climbing (subst (λ (y : ℕ). y < n) e h) j).0 s),
      )

  climb : (x j : ℕ) → bit f j ≡ true → word p n PARENT v ≡ x → x < n → Climbs m n p v x j → At u back x j
  climb x j g e h c =
      let q : x ≡ u = sym (w.parent ∙ e) in
      (q, w.go_up j ∙ and_both (bit f j) (bit w.up j) g ((w.climbing (subst (λ (y : ℕ). y < n) q h) j).1 (subst (λ (y : ℕ). Climbs m n p v y j) q c)))

  leads : (x j : ℕ) → bit f j ≡ true → Leads m n p v j x → Next x j
  unfolding Next
  leads x j g (left s e h) = inl (inl (inr (sym (w.left ∙ e), w.go_left j ∙ and_both (bit f j) (bit m.left j) g s)))
  leads x j g (right s e h) = inl (inr (sym (w.right ∙ e), w.go_right j ∙ and_both (bit f j) (bit m.right j) g s))
  leads x j g (from_left s e h c) = inr (climb x j g e h (inl (s, c)))
  leads x j g (from_right s e h c) = inr (climb x j g e h (inr (s, c)))
  leads x j g (stays s e) = inl (inl (inl (sym e, w.stay j ∙ and_both (bit f j) (bit w.brackets j) g (ap (λ (y : ℕ). bit y j) w.held ∙ s))))

  pub added_onward : {d i₀ i₁ i₂ i₃ i₄ : ℕ} {p₁ p₂ p₃ p₄ : List ℕ} → Added (At v here) n d i₀ i₁ p p₁ → Added (At l to_left) n d i₁ i₂ p₁ p₂
      → Added (At r to_right) n d i₂ i₃ p₂ p₃ → Added (At u back) n d i₃ i₄ p₃ p₄ → Added (Onward m n p v f) n d i₀ i₄ p p₄
  unfolding Next
  added_onward a b c d = added_as (λ x j h k. (led x j h, λ o. leads x j o.0 o.1)) (added_then (added_then (added_then a b) c) d)
