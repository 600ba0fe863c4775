-- Blanks at the ends of a constant do not count: 02 (b).
use Prim.Native.Nat.{ℕ}
use mathlib.Core.Path.{◌≡◌, sym, subst}
use mathlib.Core.Logic.{◌↔◌}
use mathlib.Core.List.{List}
use Rattle.lists.specs.Blanks.{trim}
use Rattle.xpath.specs.Syntax.{Op, compare_to, XPath}
use Rattle.xpath.specs.Tree.{Tree}
use Rattle.xpath.specs.Meaning.{Rel, Holds}

-- constants that differ in these blanks alone ask the same
pub padded_constant : (t : Tree) (o : Op) (P : XPath) (c d : List ℕ) → trim c ≡ trim d → (v : ℕ) → Holds t (compare_to o P c) v ↔ Holds t (compare_to o P d) v
padded_constant t o P c d e v = (λ h. (h.0, h.1, alike h.0 e h.2), λ h. (h.0, h.1, alike h.0 (sym e) h.2))
  where
    alike : (w : ℕ) {a b : List ℕ} → a ≡ b → Rel o (t.value w) a → Rel o (t.value w) b
    alike w i r = subst (λ x. Rel o (t.value w) x) i r
