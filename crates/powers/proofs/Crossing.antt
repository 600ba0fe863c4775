-- The rows over an edge.
use Prim.Native.Nat.{ℕ, ◌+◌, ◌≤◌, ◌<◌}
use mathlib.Core.Path.{◌≡◌, sym, ap, ◌∙◌}
use mathlib.Core.Logic.Iff
use mathlib.Core.Logic.{◌↔◌}
use mathlib.Core.Bool.{true}
use mathlib.Core.List.{List}
use lib.ListN.{length, get_or, set}
use native.Mathlib.Omega.{arith}
use Rattle.bits.specs.Sets.{bit, and}
use Rattle.matrices.proofs.Members.{and_both, and_parts}
use Rattle.matrices.specs.Matrices.{Exactly, Related, Image, Redrawn, Drawing, Composed}
use Rattle.matrices.proofs.Drawing.{drawing_step}
use Rattle.powers.specs.Blocks.{Crossed}
use Rattle.detours.specs.Visits.{Steps}

-- one row more: f are the followers of the row at a, g those of them that are steps of w, and x is what they are related to
pub cross_step : {at i : ℕ} {p q : List ℕ} (rows : List ℕ) (a w b f g x : ℕ) → Drawing (Crossed rows p a w b) at i p q
    → a + 16 ≤ at → b + 16 ≤ at → i < 16 → at + i < length p
    → Exactly f (λ j. (k : ℕ) × (k < 16) × (bit (get_or q (a + i) 0) k ≡ true) × (bit (get_or rows k 0) j ≡ true))
    → ((j : ℕ) → bit g j ≡ and (bit f j) (bit w j)) → Exactly x (Image q b g)
    → Drawing (Crossed rows p a w b) at (i + 1) p (set q (at + i) x)
cross_step {at} {i} {p} {q} rows a w b f g x d ha hb few room next among image =
    drawing_step d x room (λ j h. (λ e. to j ((image j h).0 e), λ c. (image j h).1 (from j c)))
  where
    first : get_or q (a + i) 0 ≡ get_or p (a + i) 0
    first = d.frame.front (a + i) (omega arith)

    second : (l : ℕ) → l < 16 → get_or q (b + l) 0 ≡ get_or p (b + l) 0
    second l h = d.frame.front (b + l) (omega arith)

    to : (j : ℕ) → Image q b g j → Crossed rows p a w b i j
    to j (l, h, e, r) =
        let (ef, ew) = and_parts (bit f l) (bit w l) (sym (among l) ∙ e) in
        let (k, s, u, v) = (next l h).0 ef in
        (k, s, ap (λ (z : ℕ). bit z k) (sym first) ∙ u, (l, h, (v, ew), ap (λ (z : ℕ). bit z j) (sym (second l h)) ∙ r))

    from : (j : ℕ) → Crossed rows p a w b i j → Image q b g j
    from j (k, s, u, (l, h, c, r)) =
        let ef = (next l h).1 (k, s, ap (λ (z : ℕ). bit z k) first ∙ u, c.0) in
        (l, h, among l ∙ and_both (bit f l) (bit w l) ef c.1, ap (λ (z : ℕ). bit z j) (second l h) ∙ r)

-- ── What is told by words that stay ──
composed_iff : (A A' B B' : ℕ → ℕ → Type 0) (i j : ℕ) → ((k : ℕ) → k < 16 → A i k ↔ A' i k) → ((k : ℕ) → k < 16 → B k j ↔ B' k j) → Composed A B i j ↔ Composed A' B' i j
composed_iff A A' B B' i j f g = (λ (k, l, a, b). (k, l, (f k l).0 a, (g k l).0 b), λ (k, l, a, b). (k, l, (f k l).1 a, (g k l).1 b))

module _ {c : ℕ} {p q : List ℕ} (only : Redrawn c p q) where
  related_kept : (a i j : ℕ) → a + 16 ≤ c → i < 16 → Related q a i j ↔ Related p a i j
  related_kept a i j h l = let e = only.front (a + i) (omega arith) in (λ r. ap (λ (z : ℕ). bit z j) (sym e) ∙ r, λ r. ap (λ (z : ℕ). bit z j) e ∙ r)

  pub composed_kept : (a b i j : ℕ) → a + 16 ≤ c → b + 16 ≤ c → i < 16 → Composed (Related q a) (Related q b) i j ↔ Composed (Related p a) (Related p b) i j
  composed_kept a b i j h g l = composed_iff (Related q a) (Related p a) (Related q b) (Related p b) i j (λ k r. related_kept a i k h l) (λ k r. related_kept b k j g r)

  pub crossed_kept : (rows : List ℕ) (a w b i j : ℕ) → a + 16 ≤ c → b + 16 ≤ c → i < 16 → Crossed rows q a w b i j ↔ Crossed rows p a w b i j
  crossed_kept rows a w b i j h g l =
      composed_iff (Related q a) (Related p a) (Composed (Steps rows w) (Related q b)) (Composed (Steps rows w) (Related p b)) i j (λ k r. related_kept a i k h l)
      (λ k r. composed_iff (Steps rows w) (Steps rows w) (Related q b) (Related p b) k j (λ k' r'. Iff.rfl) (λ k' r'. related_kept b k' j g r'))
