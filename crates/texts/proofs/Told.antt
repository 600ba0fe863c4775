-- What the columns tell of a node, which may be no node.
use Prim.Native.Nat.{ℕ, ◌≤◌, ◌<◌}
use mathlib.Core.Path.{◌≡◌, subst}
use mathlib.Core.Logic.{inl, inr}
use mathlib.Core.List.{List}
use lib.ListN.{length}
use native.Mathlib.Omega.{arith}
use Rattle.document_spec.specs.Library.{Node}
use Rattle.layout.specs.Ranking.{FIRST_TEXT, LAST_TEXT}
use Rattle.layout.specs.Words.{NONE, word}
use Rattle.texts.specs.Texts.{Bounds, Extent, Told}

module _ (ns : List Node) {v a b : ℕ} (small : length ns ≤ NONE) where
  pub under_none : {f l : ℕ} → v ≡ NONE → f ≡ NONE → l ≡ NONE → Extent ns v a b → Bounds ns a b f l
  under_none z d e (inl (p, h)) = let k = h.behind in let m = h.within in absurd (omega arith)
  under_none z d e (inr (p, q)) = inr (d, e, λ u j k. absurd (omega arith))

pub under_some : {ns : List Node} {n i v a b : ℕ} (t : List ℕ) → ¬ (v ≡ NONE) → v < n → Told ns n i t → i ≤ a → Extent ns v a b
    → Bounds ns a b (word t n FIRST_TEXT v) (word t n LAST_TEXT v)
under_some {ns} {n} {i} {v} {a} {b} t z l h r (inl (p, k)) = subst (λ x. Bounds ns x b (word t n FIRST_TEXT v) (word t n LAST_TEXT v)) p (h v (omega arith) l b k)
under_some t z l h r (inr (p, q)) = absurd (z p)
