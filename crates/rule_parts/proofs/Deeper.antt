-- A part that is counted from a lower nesting on is as deep as before, less what was taken off.
use Prim.Native.Nat.{ℕ, suc}
use native.Mathlib.Omega.{arith}
use mathlib.Core.Path.{◌≡◌, refl, sym, ap, ap₂, ◌∙◌, subst}
use mathlib.Core.List.{List, [], ◌∷◌, ◌++◌, map, map-append}
use Rattle.xpath.specs.Syntax.{Test, named, not, and, or, compare, compare_to, at_least, XPath, empty, one, seq, union, star, Step, to_left, to_right, from_left, from_right, stay}
use Rattle.rule_spec.specs.Parts.{Part, test_parts, path_parts, step_parts}
use Rattle.rule_spec.specs.Readers.{keys}
use Rattle.tokens.specs.Readers.{Shallow}

abbrev deeper : Part → Part
deeper p = record { offset = p.offset; nesting = suc p.nesting; sort = p.sort }

-- ps are qs, one deeper
record Above (ps qs : List Part) : Type 0 where
  is : ps ≡ map deeper qs

none : Above [] []
none = record { is = refl }

behind : (p : Part) {ps qs : List Part} → Above ps qs → Above (deeper p ∷ ps) (p ∷ qs)
behind p e = record { is = ap (λ ps. deeper p ∷ ps) e.is }

beside : {ps qs rs ts : List Part} → Above ps rs → Above qs ts → Above (ps ++ qs) (rs ++ ts)
beside {rs = rs} {ts = ts} e f = record { is = ap₂ (λ (xs ys : List Part). xs ++ ys) e.is f.is ∙ sym (map-append deeper rs ts) }

mutual
  unfolding test_parts path_parts step_parts

  test_deeper : (T : Test) (o n : ℕ) → Above (test_parts T o (suc n)) (test_parts T o n)
  test_deeper (named a) o n = behind _ none
  test_deeper (not T) o n = behind _ (test_deeper T (suc o) (suc n))
  test_deeper (and T U) o n = behind _ (beside (test_deeper T (suc o) (suc n)) (test_deeper U _ (suc n)))
  test_deeper (or T U) o n = behind _ (beside (test_deeper T (suc o) (suc n)) (test_deeper U _ (suc n)))
  test_deeper (compare s P Q) o n = behind _ (beside (path_deeper P (suc o) (suc n)) (path_deeper Q _ (suc n)))
  test_deeper (compare_to s P c) o n = behind _ (path_deeper P (suc o) (suc n))
  test_deeper (at_least k P) o n = behind _ (path_deeper P _ (suc n))

  path_deeper : (P : XPath) (o n : ℕ) → Above (path_parts P o (suc n)) (path_parts P o n)
  path_deeper empty o n = behind _ none
  path_deeper (one s) o n = behind _ (step_deeper s o n)
  path_deeper (seq P Q) o n = behind _ (beside (path_deeper P (suc o) (suc n)) (path_deeper Q _ (suc n)))
  path_deeper (union P Q) o n = behind _ (beside (path_deeper P (suc o) (suc n)) (path_deeper Q _ (suc n)))
  path_deeper (star P) o n = behind _ (path_deeper P (suc o) (suc n))

  step_deeper : (s : Step) (o n : ℕ) → Above (step_parts s o (suc n)) (step_parts s o n)
  step_deeper to_left o n = none
  step_deeper to_right o n = none
  step_deeper from_left o n = none
  step_deeper from_right o n = none
  step_deeper (stay T) o n = test_deeper T (suc o) (suc n)

shallower : (ps : List Part) → Shallow (keys (map deeper ps)) → Shallow (keys ps)
shallower [] h = tt
shallower (p ∷ ps) h = (let l = h.0 in omega arith, shallower ps h.1)

pub test_shallower : (T : Test) (o n : ℕ) → Shallow (keys (test_parts T o (suc n))) → Shallow (keys (test_parts T o n))
test_shallower T o n h = shallower (test_parts T o n) (subst (λ ps. Shallow (keys ps)) (test_deeper T o n).is h)

pub path_shallower : (P : XPath) (o n : ℕ) → Shallow (keys (path_parts P o (suc n))) → Shallow (keys (path_parts P o n))
path_shallower P o n h = shallower (path_parts P o n) (subst (λ ps. Shallow (keys ps)) (path_deeper P o n).is h)
