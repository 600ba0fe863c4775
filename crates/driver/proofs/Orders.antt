-- All orders of a rule's tests that have inner ones first give the same bits and the same number of snippets: 02, (k).
use Prim.Native.Nat.{ℕ, ◌<◌}
use mathlib.Core.Path.{◌≡◌, refl, sym, ◌∙◌}
use mathlib.Core.Logic.{◌↔◌}
use mathlib.Core.Bool.{Bool, true, false}
use mathlib.Core.List.{List}
use lib.ListN.{length}
use Rattle.xpath.specs.Syntax.{Test}
use Rattle.xpath.specs.Tree.{Tree}
use Rattle.snippets.proofs.Counting.{counted_one}
use Rattle.document_spec.specs.Library.{Node}
use Rattle.document_spec.specs.Binary.{tree_of}
use Rattle.test_bits.specs.Columns.{held}
use Rattle.test_numbers.specs.Tests.{tests_of}
use Rattle.test_numbers.specs.Orders.{EachTest}
use Rattle.test_numbers.specs.Owned.{owned}
use Rattle.evaluators.specs.declared.Evaluator.{Evaluator}
use Rattle.evaluators.specs.declared.Evaluator.TheVariants.{Plain, Snippets}
use Rattle.driver.specs.Tasks.{Total, Drives}

same_told : {A : Type 0} (a b : Bool) → (a ≡ true) ↔ A → (b ≡ true) ↔ A → a ≡ b
same_told true b f g = sym (g.1 (f.0 refl))
same_told false true f g = f.1 (g.0 refl)
same_told false false f g = refl

one_total : (e : Evaluator) (t : Tree) (Ts : List Test) (r q : ℕ) → Total e t Ts r → Total e t Ts q → r ≡ q
one_total Plain t Ts r q h g = h ∙ sym g
one_total Snippets t Ts r q h g = counted_one t (owned Ts) r q h g

module _ {e : Evaluator} {ns : List Node} {n : ℕ} {T : Test} {ks ls t t₁ t₂ : List ℕ} {r q : ℕ}
    (first : Drives e ns n T ks t t₁ r) (second : Drives e ns n T ls t t₂ q) (each : EachTest T ks) (every : EachTest T ls) where
  pub same_bits : (k : ℕ) → k < length (tests_of T) → (v : ℕ) → v < n → held t₁ n k v ≡ held t₂ n k v
  same_bits k l v h = same_told (held t₁ n k v) (held t₂ n k v) ((first.whole each).tells k l v h) ((second.whole every).tells k l v h)

  pub same_sum : r ≡ q
  same_sum = one_total e (tree_of ns) (tests_of T) r q (first.whole each).total (second.whole every).total
