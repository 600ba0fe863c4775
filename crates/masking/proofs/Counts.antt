-- In two trees that are alike a rule has the same number of snippets.
use Prim.Native.Nat.{ℕ}
use mathlib.Core.Path.{◌≡◌, sym, ◌∙◌}
use mathlib.Core.Logic.{inr}
use mathlib.Core.List.{List, [], ◌∷◌, ◌++◌}
use native.Mathlib.Omega.{arith}
use Rattle.lists.specs.Lists.{All}
use Rattle.lists.proofs.Lists.{all_append, number_iff, number_one}
use Rattle.xpath.specs.Syntax.{Op, eq, ne, lt, le, gt, ge, Test, named, not, and, or, compare, compare_to, at_least, XPath, empty, one, seq, union, star, Step, to_left, to_right, from_left, from_right, stay}
use Rattle.xpath.specs.Tree.{Tree}
use Rattle.snippets.specs.Count.{Pair, comparisons, Counted, SnippetCount}
use Rattle.snippets.specs.Count as Count
use Rattle.masking.specs.Masking.{constants, in_path, in_step}
use Rattle.masking.specs.Alike.{Alike, Within}
use Rattle.masking.proofs.Shape.{left, right}
use Rattle.masking.proofs.Snippets.{yielded_alike}

-- ── The constants of an equality are constants of the rule ──
module _ (C : List ℕ → Type 0) where
  abbrev Kept : Pair → Type 0
  Kept c = Within C (in_path c.first ++ in_path c.second)

  -- from two lists of constants to two lists of equalities
  split : (xs ys : List (List ℕ)) (cs ds : List Pair) → (Within C xs → All Kept cs) → (Within C ys → All Kept ds) → Within C (xs ++ ys) → All Kept (cs ++ ds)
  split xs ys cs ds f g k = (all_append Kept cs ds).1 (f (left xs ys k), g (right xs ys k))

  -- a comparison is one of them itself, if it is an equality
  itself : (o : Op) (P Q : XPath) → Kept (record { first = P; second = Q }) → All Kept (Count.in_path P ++ Count.in_path Q) → All Kept (comparisons (compare o P Q))
  itself eq P Q k h = (k, h)
  itself ne P Q k h = h
  itself lt P Q k h = h
  itself le P Q k h = h
  itself gt P Q k h = h
  itself ge P Q k h = h

  mutual
    in_test : (T : Test) → Within C (constants T) → All Kept (comparisons T)
    in_test (named n) k = tt
    in_test (not T) k = in_test T k
    in_test (and T U) k = split (constants T) (constants U) (comparisons T) (comparisons U) (λ i. in_test T i) (λ i. in_test U i) k
    in_test (or T U) k = split (constants T) (constants U) (comparisons T) (comparisons U) (λ i. in_test T i) (λ i. in_test U i) k
    in_test (compare o P Q) k = itself o P Q k (split (in_path P) (in_path Q) (Count.in_path P) (Count.in_path Q) (λ i. in_path_lem P i) (λ i. in_path_lem Q i) k)
    in_test (compare_to o P c) k = in_path_lem P (λ d i. k d (inr i))
    in_test (at_least n P) k = in_path_lem P k

    in_path_lem : (P : XPath) → Within C (in_path P) → All Kept (Count.in_path P)
    in_path_lem empty k = tt
    in_path_lem (one s) k = in_step_lem s k
    in_path_lem (seq P Q) k = split (in_path P) (in_path Q) (Count.in_path P) (Count.in_path Q) (λ i. in_path_lem P i) (λ i. in_path_lem Q i) k
    in_path_lem (union P Q) k = split (in_path P) (in_path Q) (Count.in_path P) (Count.in_path Q) (λ i. in_path_lem P i) (λ i. in_path_lem Q i) k
    in_path_lem (star P) k = in_path_lem P k

    in_step_lem : (s : Step) → Within C (in_step s) → All Kept (Count.in_step s)
    in_step_lem to_left k = tt
    in_step_lem to_right k = tt
    in_step_lem from_left k = tt
    in_step_lem from_right k = tt
    in_step_lem (stay T) k = in_test T k

-- ── One set has one number ──
module _ {C : List ℕ → Type 0} {t t' : Tree} (a : Alike C t t') where
  counted_alike : (cs : List Pair) → All (Kept C) cs → (n m : ℕ) → Counted t cs n → Counted t' cs m → n ≡ m
  counted_alike [] k n m h g = h ∙ sym g
  counted_alike (c ∷ cs) (k, ks) n m (x, y, e, h, g) (x', y', e', h', g') =
      let i = number_one (number_iff (λ s. yielded_alike a c.first c.second k s.power s.x s.y s.p s.q) h.counted) h'.counted in
      let j = counted_alike cs ks y y' g g' in
      omega arith

  pub snippet_count_alike : (T : Test) → Within C (constants T) → (n m : ℕ) → SnippetCount t T n → SnippetCount t' T m → n ≡ m
  snippet_count_alike T k n m h g = counted_alike (comparisons T) (in_test C T k) n m h.counted g.counted
