-- The steps one after the other give the ranks of amounts.
use Prim.Native.Nat.{ℕ, ◌<◌}
use mathlib.Core.Path.{◌≡◌, sym, ◌∙◌, subst, subst₂}
use mathlib.Core.Logic.{◌↔◌}
use mathlib.Core.List.{List}
use lib.ListN.{length}
use native.Mathlib.Omega.{arith}
use Rattle.document_spec.specs.Library.{Node}
use Rattle.document_spec.specs.Verdict.{Accepts}
use Rattle.layout.specs.Table.{COLUMNS, AMOUNT}
use Rattle.layout.specs.Words.{word, Within}
use Rattle.layout.proofs.Frames.{within_then, within_more}
use Rattle.table.specs.Tabled.{Tabled}
use Rattle.table.proofs.Trees.{tree_size}
use Rattle.sorting.specs.Sorting.{InOrder}
use Rattle.numerals.specs.Keys.{no_key}
use Rattle.amounts.specs.Weighed.{key_at, Weighed}
use Rattle.amounts.specs.Keys.{Keys}
use Rattle.amounts.specs.Steps.{Keyed, Sorting, Numbered, Struck}
use Rattle.amounts.proofs.Sorting.{keys_kept}

-- numbers in the order of the keys, and those without a key struck out
module _ (ns : List Node) {t t' : List ℕ} (keys : Keys (length ns) (key_at ns) t) (o : InOrder ◌<◌ (key_at ns) (length ns) (λ v. word t (length ns) AMOUNT v))
    (z : Struck (length ns) (length ns) t t') where
  number : (v : ℕ) → v < length ns → key_at ns v < no_key → word t (length ns) AMOUNT v ≡ word t' (length ns) AMOUNT v
  number v l h = let k = keys v l in sym ((z.shown v l).some (λ e. omega arith))

  weighed_of : Weighed ns t'
  weighed_of =
      record {
        none = λ v l e. (z.shown v l).none (keys v l ∙ e);
        small = λ v l h. subst (λ x. x < length ns) (number v l h) (o.small v l);
        ordered = λ v w l r h k. subst₂ (λ x y. (x < y) ↔ (key_at ns v < key_at ns w)) (number v l h) (number w r k) (o.ordered v w l r);
        same = λ v w l r h k. subst₂ (λ x y. (x ≡ y) ↔ (key_at ns v ≡ key_at ns w)) (number v l h) (number w r k) (o.same v w l r);
      }

-- the keys noted, the nodes sorted, numbered, and the numbers struck out
module _ {s : List ℕ} {n : ℕ} {t t₁ t₂ t₃ t₄ : List ℕ} (f : Keyed s n n t t₁) (g : Sorting n n t₁ t₂) (h : Numbered n t₂ t₃) (z : Struck n n t₃ t₄) where
  pub weighed_within : Within n AMOUNT COLUMNS t t₄
  weighed_within =
      within_then (within_more (omega arith) (omega arith) f.within)
      (within_then (within_more (omega arith) (omega arith) g.within)
      (within_then (within_more (omega arith) (omega arith) h.within) (within_more (omega arith) (omega arith) z.within)))

  pub weighed : Tabled s n t → (ns : List Node) → Accepts s ns → Weighed ns t₄
  weighed q ns a =
      subst (λ m. Keys m (key_at ns) t₃ → InOrder ◌<◌ (key_at ns) m (λ v. word t₃ m AMOUNT v) → Struck m m t₃ t₄ → Weighed ns t₄) (tree_size q ns a)
      (weighed_of ns)
      (keys_kept (omega arith) h.within sorted)
      (h.in_order (key_at ns) sorted (g.sorted (key_at ns) (f.keyed ns a)))
      z
    where
      sorted : Keys n (key_at ns) t₂
      sorted = keys_kept (omega arith) g.within (f.keyed ns a)
