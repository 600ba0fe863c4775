-- In two trees that are alike a rule means the same: tests hold at the same nodes, and paths join the same nodes.
use Prim.Native.Nat.{ℕ, ◌<◌}
use mathlib.Core.Path.{refl, sym, ◌∙◌}
use mathlib.Core.Logic.{inl, inr, ◌↔◌}
use mathlib.Core.List.{List}
use Rattle.lists.proofs.Lists.{at_least_imp}
use Rattle.xpath.specs.Syntax.{Test, named, not, and, or, compare, compare_to, at_least, XPath, empty, one, seq, union, star, Step, to_left, to_right, from_left, from_right, stay}
use Rattle.xpath.specs.Tree.{Tree}
use Rattle.xpath.specs.Meaning.{Many, none, more, Holds, Reaches, Moves}
use Rattle.xpath.proofs.Decide.{reaches_inside}
use Rattle.masking.specs.Masking.{constants, in_path, in_step}
use Rattle.masking.specs.Alike.{Alike, Within}
use Rattle.masking.proofs.Shape.{left, right, inside, alike_sym, child_alike}

-- nodes that lie below n stay there
many_alike : (n : ℕ) (R S : ℕ → ℕ → Type 0) → ((a b : ℕ) → a < n → R a b → b < n) → ((a b : ℕ) → a < n → R a b → S a b)
    → (v w : ℕ) → v < n → Many R v w → Many S v w
many_alike n R S stays f v w r none = none
many_alike n R S stays f v w r (more {u = u} h k) = more (f v u r h) (many_alike n R S stays f u w (stays v u r h) k)

module _ {C : List ℕ → Type 0} where
  mutual
    holds_imp : {t t' : Tree} → Alike C t t' → (T : Test) → Within C (constants T) → (v : ℕ) → v < t.size → Holds t T v → Holds t' T v
    holds_imp a (named n) k v r h = sym (a.label v r) ∙ h
    holds_imp a (not T) k v r h = λ g. h (holds_imp (alike_sym a) T k v (inside a r) g)
    holds_imp a (and T U) k v r (h, g) = (holds_imp a T (left (constants T) (constants U) k) v r h, holds_imp a U (right (constants T) (constants U) k) v r g)
    holds_imp a (or T U) k v r (inl h) = inl (holds_imp a T (left (constants T) (constants U) k) v r h)
    holds_imp a (or T U) k v r (inr h) = inr (holds_imp a U (right (constants T) (constants U) k) v r h)
    holds_imp {t} a (compare o P Q) k v r (w, u, h, g, c) = (
      w,
      u,
      reaches_imp a P (left (in_path P) (in_path Q) k) v w r h,
      reaches_imp a Q (right (in_path P) (in_path Q) k) v u r g,
      (a.values w u (reaches_inside t a.formed P v w r h) (reaches_inside t a.formed Q v u r g) o).0 c,
    )
    holds_imp {t} a (compare_to o P d) k v r (w, h, c) =
        (w, reaches_imp a P (λ e i. k e (inr i)) v w r h, (a.against w (reaches_inside t a.formed P v w r h) d (k d (inl refl)) o).0 c)
    holds_imp a (at_least n P) k v r h = at_least_imp (λ w g. reaches_imp a P k v w r g) h

    reaches_imp : {t t' : Tree} → Alike C t t' → (P : XPath) → Within C (in_path P) → (v w : ℕ) → v < t.size → Reaches t P v w → Reaches t' P v w
    reaches_imp a empty k v w r h = h
    reaches_imp a (one s) k v w r h = moves_imp a s k v w r h
    reaches_imp {t} a (seq P Q) k v w r (u, h, g) =
        (u, reaches_imp a P (left (in_path P) (in_path Q) k) v u r h, reaches_imp a Q (right (in_path P) (in_path Q) k) u w (reaches_inside t a.formed P v u r h) g)
    reaches_imp a (union P Q) k v w r (inl h) = inl (reaches_imp a P (left (in_path P) (in_path Q) k) v w r h)
    reaches_imp a (union P Q) k v w r (inr h) = inr (reaches_imp a Q (right (in_path P) (in_path Q) k) v w r h)
    reaches_imp {t} {t'} a (star P) k v w r h =
        many_alike t.size (λ x y. Reaches t P x y) (λ x y. Reaches t' P x y) (λ x y i g. reaches_inside t a.formed P x y i g) (λ x y i g. reaches_imp a P k x y i g) v w r h

    pub moves_imp : {t t' : Tree} → Alike C t t' → (s : Step) → Within C (in_step s) → (v w : ℕ) → v < t.size → Moves t s v w → Moves t' s v w
    moves_imp a to_left k v w r h = child_alike a h
    moves_imp a to_right k v w r h = child_alike a h
    moves_imp a from_left k v w r h = child_alike a h
    moves_imp a from_right k v w r h = child_alike a h
    moves_imp a (stay T) k v w r (e, h) = (e, holds_imp a T k v r h)

  -- ── The theorems ──
  module _ {t t' : Tree} (a : Alike C t t') where
    pub holds_alike : (T : Test) → Within C (constants T) → (v : ℕ) → v < t.size → Holds t T v ↔ Holds t' T v
    holds_alike T k v r = (holds_imp a T k v r, holds_imp (alike_sym a) T k v (inside a r))

    pub reaches_alike : (P : XPath) → Within C (in_path P) → (v w : ℕ) → v < t.size → Reaches t P v w ↔ Reaches t' P v w
    reaches_alike P k v w r = (reaches_imp a P k v w r, reaches_imp (alike_sym a) P k v w (inside a r))
