-- What the ranks of amounts tell, and that they stay where the words of their column do.
use Prim.Native.Nat.{ℕ, ◌≤◌, ◌<◌}
use mathlib.Core.Path.{◌≡◌, sym, ◌∙◌, subst, subst₂}
use mathlib.Core.Logic.{◌↔◌}
use mathlib.Core.List.{List}
use lib.ListN.{length}
use native.Mathlib.Omega.{arith}
use native.Mathlib.Decide.{dec_lt}
use Rattle.document_spec.specs.Library.{Node}
use Rattle.layout.specs.Table.{AMOUNT}
use Rattle.layout.specs.Words.{NONE, word}
use Rattle.document_spec.specs.Binary.{compared_of}
use Rattle.numerals.specs.Keys.{no_key}
use Rattle.numerals.proofs.Keys.{key_most}
use Rattle.amounts.specs.Weighed.{key_at, Weighed}

-- a node with a rank has an amount
pub weighed_some : {ns : List Node} {t : List ℕ} → length ns ≤ NONE → Weighed ns t → (v : ℕ) → v < length ns → word t (length ns) AMOUNT v < length ns → key_at ns v < no_key
weighed_some {ns} few g v l s = go (dec_lt (key_at ns v) no_key)
  where
    go : Dec (key_at ns v < no_key) → key_at ns v < no_key
    go (yes h) = h
    go (no h) = let m = key_most (compared_of ns v) in let e = g.none v l (omega arith) in absurd (omega arith)

pub weighed_same : {ns : List Node} {t t' : List ℕ} → ((v : ℕ) → v < length ns → word t' (length ns) AMOUNT v ≡ word t (length ns) AMOUNT v) → Weighed ns t → Weighed ns t'
weighed_same {ns} {t} {t'} same h = record {
  none = λ v l e. same v l ∙ h.none v l e;
  small = λ v l e. subst (λ x. x < length ns) (sym (same v l)) (h.small v l e);
  ordered = λ v w l k e f. subst₂ (λ x y. (x < y) ↔ (key_at ns v < key_at ns w)) (sym (same v l)) (sym (same w k)) (h.ordered v w l k e f);
  same = λ v w l k e f. subst₂ (λ x y. (x ≡ y) ↔ (key_at ns v ≡ key_at ns w)) (sym (same v l)) (sym (same w k)) (h.same v w l k e f);
}
