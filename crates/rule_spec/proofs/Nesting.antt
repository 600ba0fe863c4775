-- Nesting grows by one from a part to those inside it: below a deep part there is one at each nesting on the way.
use Prim.Native.Nat.{ℕ, suc, ◌≤◌}
use native.Mathlib.Omega.{arith}
use native.Mathlib.Decide.{ℕ_discrete}
use mathlib.Core.Path.{◌≡◌, refl, sym, ap, ◌∙◌}
use mathlib.Core.Logic.{◌⊎◌, inl, inr}
use mathlib.Core.List.{List, [], ◌∷◌, ◌++◌}
use Rattle.lists.specs.Lists.{Occurs}
use Rattle.lists.proofs.Lists.{occurs_left, occurs_right, occurs_append}
use Rattle.xpath.specs.Syntax.{Test, named, not, and, or, compare, compare_to, at_least, XPath, empty, one, seq, union, star, Step, to_left, to_right, from_left, from_right, stay}
use Rattle.rule_spec.specs.Parts.{Part, test_parts, path_parts, step_parts}

-- from n on, no nesting is left out
pub record Climbs (n : ℕ) (ps : List Part) : Type 0 where
  pub climbs : (p : Part) → Occurs p ps → (m : ℕ) → n ≤ m → m ≤ p.nesting → (q : Part) × Occurs q ps × (q.nesting ≡ m)

none : (n : ℕ) → Climbs n []
none n = record { climbs = λ p o. absurd o }

inside : {n : ℕ} (p : Part) {ps : List Part} → p.nesting ≡ n → Climbs (suc n) ps → Climbs n (p ∷ ps)
inside {n} p {ps} e c = record { climbs = λ r o m h g. go r o m h g (ℕ_discrete m n) }
  where
    go : (r : Part) → Occurs r (p ∷ ps) → (m : ℕ) → n ≤ m → m ≤ r.nesting → Dec (m ≡ n) → (q : Part) × Occurs q (p ∷ ps) × (q.nesting ≡ m)
    go r o m h g (yes i) = (p, inl refl, e ∙ sym i)
    go r (inl o) m h g (no f) = let j = ap (λ (q : Part). q.nesting) o in absurd (f (omega arith))
    go r (inr o) m h g (no f) = let (q, a, i) = c.climbs r o m (omega arith) g in (q, inr a, i)

beside : {n : ℕ} (ps qs : List Part) → Climbs n ps → Climbs n qs → Climbs n (ps ++ qs)
beside {n} ps qs c d = record { climbs = λ r o m h g. go r m h g (occurs_append r ps qs o) }
  where
    go : (r : Part) (m : ℕ) → n ≤ m → m ≤ r.nesting → Occurs r ps ⊎ Occurs r qs → (q : Part) × Occurs q (ps ++ qs) × (q.nesting ≡ m)
    go r m h g (inl o) = let (q, a, i) = c.climbs r o m h g in (q, occurs_left q ps qs a, i)
    go r m h g (inr o) = let (q, a, i) = d.climbs r o m h g in (q, occurs_right q ps qs a, i)

mutual
  unfolding test_parts path_parts step_parts

  pub climb_test : (T : Test) (o n : ℕ) → Climbs n (test_parts T o n)
  climb_test (named a) o n = inside _ refl (none (suc n))
  climb_test (not T) o n = inside _ refl (climb_test T (suc o) (suc n))
  climb_test (and T U) o n = inside _ refl (beside _ _ (climb_test T (suc o) (suc n)) (climb_test U _ (suc n)))
  climb_test (or T U) o n = inside _ refl (beside _ _ (climb_test T (suc o) (suc n)) (climb_test U _ (suc n)))
  climb_test (compare s P Q) o n = inside _ refl (beside _ _ (climb_path P (suc o) (suc n)) (climb_path Q _ (suc n)))
  climb_test (compare_to s P c) o n = inside _ refl (climb_path P (suc o) (suc n))
  climb_test (at_least k P) o n = inside _ refl (climb_path P _ (suc n))

  climb_path : (P : XPath) (o n : ℕ) → Climbs n (path_parts P o n)
  climb_path empty o n = inside _ refl (none (suc n))
  climb_path (one s) o n = inside _ refl (climb_step s o n)
  climb_path (seq P Q) o n = inside _ refl (beside _ _ (climb_path P (suc o) (suc n)) (climb_path Q _ (suc n)))
  climb_path (union P Q) o n = inside _ refl (beside _ _ (climb_path P (suc o) (suc n)) (climb_path Q _ (suc n)))
  climb_path (star P) o n = inside _ refl (climb_path P (suc o) (suc n))

  climb_step : (s : Step) (o n : ℕ) → Climbs (suc n) (step_parts s o n)
  climb_step to_left o n = none (suc n)
  climb_step to_right o n = none (suc n)
  climb_step from_left o n = none (suc n)
  climb_step from_right o n = none (suc n)
  climb_step (stay T) o n = climb_test T (suc o) (suc n)
