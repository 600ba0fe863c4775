-- Of two trees that are alike: either may be the first, and what lies above what is the same in both.
use Prim.Native.Nat.{ℕ, ◌<◌}
use mathlib.Core.Path.{sym, ◌∙◌}
use mathlib.Core.Bool.{Bool}
use mathlib.Core.List.{List, ◌++◌}
use native.Mathlib.Omega.{arith}
use Rattle.lists.proofs.Lists.{occurs_left, occurs_right}
use Rattle.xpath.specs.Tree.{Tree, Child, Down, Under}
use Rattle.xpath.proofs.Booleans.{swap}
use Rattle.masking.specs.Alike.{Alike, Within}

-- ── Constants of a part ──
module _ {C : List ℕ → Type 0} where
  pub left : (xs ys : List (List ℕ)) → Within C (xs ++ ys) → Within C xs
  left xs ys k c o = k c (occurs_left c xs ys o)

  pub right : (xs ys : List (List ℕ)) → Within C (xs ++ ys) → Within C ys
  right xs ys k c o = k c (occurs_right c xs ys o)

-- ── Both ways ──
module _ {C : List ℕ → Type 0} {t t' : Tree} (a : Alike C t t') where
  pub inside : {v : ℕ} → v < t.size → v < t'.size
  inside r = let e = a.size in omega arith

  pub inside_back : {v : ℕ} → v < t'.size → v < t.size
  inside_back r = let e = a.size in omega arith

  pub alike_sym : Alike C t' t
  alike_sym = record {
    formed = a.formed';
    formed' = a.formed;
    size = sym a.size;
    parent = λ v r. sym (a.parent v (inside_back r));
    is_left = λ v r. sym (a.is_left v (inside_back r));
    label = λ v r. sym (a.label v (inside_back r));
    values = λ v w r q o. swap (a.values v w (inside_back r) (inside_back q) o);
    against = λ v r c k o. swap (a.against v (inside_back r) c k o);
  }

  -- ── The shape ──
  pub child_alike : {side : Bool} {v w : ℕ} → Child t side v w → Child t' side v w
  child_alike {w = w} c = record {
    inner = c.inner;
    inside = inside c.inside;
    above = sym (a.parent w c.inside) ∙ c.above;
    which = sym (a.is_left w c.inside) ∙ c.which;
  }

  pub down_alike : {x y n : ℕ} → Down t x y n → Down t' x y n
  down_alike Down.here = Down.here
  down_alike (Down.deeper d c) = Down.deeper (down_alike d) (child_alike c)

  pub under_alike : {x y : ℕ} → Under t x y → Under t' x y
  under_alike (n, d) = (n, down_alike d)
