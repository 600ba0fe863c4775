-- A document spells one library, so what is said of some is said of each that it spells.
use Prim.Native.Nat.{ℕ, ◌≤◌, ◌<◌}
use mathlib.Core.Path.{◌≡◌, sym, ap, ◌∙◌, subst}
use mathlib.Core.List.{List}
use lib.ListN.{length}
use native.Mathlib.Omega.{arith}
use Rattle.document_spec.specs.Library.{Node}
use Rattle.document_spec.specs.Verdict.{Accepts}
use Rattle.document_spec.proofs.Accepted.{accepts_one}
use Rattle.document_lines.specs.Entries.{Stands}
use Rattle.layout.specs.Table.{offset_of}
use Rattle.layout.specs.Words.{NONE}
use Rattle.table.specs.Links.{Linked}
use Rattle.table.specs.Tabled.{Tabled}

module _ {s : List ℕ} {n : ℕ} {t : List ℕ} (h : Tabled s n t) where
  pub tree_size : (ns : List Node) → Accepts s ns → length ns ≡ n
  tree_size ns a = ap (λ (l : List Node). length l) (accepts_one s ns h.nodes a h.accepts) ∙ h.size

  pub tree_linked : (ns : List Node) → Accepts s ns → Linked s ns t
  tree_linked ns a = subst (λ (l : List Node). Linked s l t) (accepts_one s h.nodes ns h.accepts a) h.linked

  pub tree_stands : (ns : List Node) (v : ℕ) → Accepts s ns → Linked s ns t → v < n → Stands s ns v (offset_of t n v)
  tree_stands ns v a k r =
      let e = tree_size ns a in
      subst (λ m. Stands s ns v (offset_of t m v)) e (k.places v (subst (λ m. v < m) (sym e) r))

  -- the lines of node v stand where its words say
  pub stands_at : (ns : List Node) {v i : ℕ} → Accepts s ns → v < n → i ≡ offset_of t n v → Stands s ns v i
  stands_at ns {v} a r e = subst (λ i. Stands s ns v i) (sym e) (tree_stands ns v a (tree_linked ns a) r)

-- the word for no node is no node
pub tree_small : {s : List ℕ} {ns : List Node} → Accepts s ns → length ns ≤ NONE
tree_small a = let f = a.legal.few in omega arith
