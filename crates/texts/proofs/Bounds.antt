-- Laws of the first and the last text of consecutive nodes that is not blank.
use Prim.Native.Nat.{ℕ, suc, ◌≤◌, ◌<◌}
use mathlib.Core.Path.{◌≡◌, refl, sym, ap, ◌∙◌, subst₂}
use mathlib.Core.Logic.{◌≢◌, inl, inr}
use mathlib.Core.List.{List, []}
use lib.ListN.{length}
use native.Mathlib.Omega.{arith}
use native.Mathlib.Decide.{dec_lt}
use Rattle.lists.specs.Blanks.{trim}
use Rattle.document_spec.specs.Library.{Node, at}
use Rattle.document_spec.specs.Binary.{text_of}
use Rattle.layout.specs.Words.{NONE}
use Rattle.texts.specs.Texts.{Silent, Spoken, Bounds}

module _ (ns : List Node) where
  pub silent_one : {v : ℕ} → trim (text_of (at ns v)) ≡ [] → Silent ns v (suc v)
  silent_one {v} e u i j = let z : u ≡ v = omega arith in ap (λ (x : ℕ). trim (text_of (at ns x))) z ∙ e

  pub spoken_one : {v : ℕ} → 0 < length (trim (text_of (at ns v))) → Spoken ns v (suc v) v v
  spoken_one h = record {
    after = omega arith;
    order = omega arith;
    within = omega arith;
    begins = h;
    ends = h;
    front = λ u i j. absurd (omega arith);
    behind = λ u i j. absurd (omega arith);
  }

  silent_join : {a b c : ℕ} → Silent ns a b → Silent ns b c → Silent ns a c
  silent_join {a} {b} {c} p q u i j = go (dec_lt u b)
    where
      go : Dec (u < b) → trim (text_of (at ns u)) ≡ []
      go (yes r) = p u i r
      go (no r) = q u (omega arith) j

  -- the first text of the front if it has any, and else that of the rest; and so with the last, the other way round
  pub bounds_join : {a b c f l f' l' p q : ℕ} → a ≤ b → b ≤ c → c ≤ NONE → Bounds ns a b f l → Bounds ns b c f' l'
      → (f ≡ NONE → p ≡ f') → (f ≢ NONE → p ≡ f) → (l' ≡ NONE → q ≡ l) → (l' ≢ NONE → q ≡ l') → Bounds ns a c p q
  bounds_join {a} {b} {c} {f} {l} {f'} {l'} {p} {q} i j s h k first here last there = go h k
    where
      by : {x y : ℕ} → p ≡ x → q ≡ y → Bounds ns a c x y → Bounds ns a c p q
      by d e z = subst₂ (λ x y. Bounds ns a c x y) (sym d) (sym e) z

      go : Bounds ns a b f l → Bounds ns b c f' l' → Bounds ns a c p q
      go (inl x) (inl y) =
          let m = x.order in let n = x.within in let o = y.after in let r = y.order in let w = y.within in
          by (here (omega arith)) (there (omega arith))
          (inl (record { after = x.after; order = omega arith; within = w; begins = x.begins; ends = y.ends; front = x.front; behind = y.behind }))
      go (inl x) (inr (d, e, y)) =
          let m = x.order in let n = x.within in
          by (here (omega arith)) (last e)
          (inl (record { after = x.after; order = m; within = omega arith; begins = x.begins; ends = x.ends; front = x.front; behind = silent_join x.behind y }))
      go (inr (d, e, x)) (inl y) =
          let m = y.after in let n = y.within in
          by (first d) (there (omega arith))
          (inl (record { after = omega arith; order = y.order; within = n; begins = y.begins; ends = y.ends; front = silent_join x y.front; behind = y.behind }))
      go (inr (d, e, x)) (inr (g, o, y)) = by (first d ∙ g) (last o ∙ e) (inr (refl, refl, silent_join x y))

  -- a node or no node
  pub bounds_small : {a b f l : ℕ} → b ≤ NONE → Bounds ns a b f l → (f ≤ NONE) × (l ≤ NONE)
  bounds_small s (inl x) = let m = x.order in let n = x.within in (omega arith, omega arith)
  bounds_small s (inr (d, e, x)) = (omega arith, omega arith)
