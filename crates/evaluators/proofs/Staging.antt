-- What a comparison that stands in the part gives to either evaluator.
use Prim.Native.Nat.{ℕ, ◌*◌, ◌<◌}
use native.Mathlib.Nat.{add-mul}
use native.Mathlib.Omega.{arith}
use mathlib.Core.Path.{◌≡◌, subst}
use mathlib.Core.Logic.{inl, inr, ◌↔◌, ⊎_elim}
use mathlib.Core.List.{List}
use Rattle.lists.specs.Text.{binary_digits}
use Rattle.xpath.specs.Syntax.{Op, eq, XPath}
use Rattle.xpath.specs.Tree.{Tree, WellFormed}
use Rattle.machine.specs.declared.Machine.{Machine}
use Rattle.machine.specs.Meaning.{Drawn}
use Rattle.machine.proofs.Comparing.{ranks_small}
use Rattle.rule_parts.specs.Kinds.{operator}
use Rattle.rule_parts.specs.declared.kinds.Operator.TheVariants.{Equal}
use Rattle.layout.specs.Part.{Space}
use Rattle.layout.specs.Table.{SmallRanks}
use Rattle.plain.specs.Plain.{Answered}
use Rattle.plain.proofs.Signs.{equal_sign}
use Rattle.evaluators.specs.Evaluators.{PartRoom, Posed}

module _ {P R : XPath} {t : Tree} {n : ℕ} {p : List ℕ} (formed : WellFormed t) (drawn : Drawn P R t n p) where
  pub drawn_some : 0 < n
  drawn_some = subst (λ k. 0 < k) drawn.size formed.rooted

  pub drawn_space : PartRoom n p → Space n p
  drawn_space room = let e = add-mul 112 (64 * binary_digits n) n in record { some = drawn_some; few = drawn.few; room = omega arith }

-- posed by =
module _ {q : Op} {P R : XPath} {t : Tree} {m : Machine} {n : ℕ} {p : List ℕ} (posed : Posed q P R t m n p) (e : Equal ≡ operator q) where
  pub equal_posed : Posed eq P R t m n p
  equal_posed = subst (λ o. Posed o P R t m n p) (equal_sign q e) posed

  pub equal_small : SmallRanks n p
  equal_small = ranks_small t p equal_posed.ranks

-- the same answers to the same question
pub answered_as : {n : ℕ} {A B : ℕ → Type 0} {p p' : List ℕ} → ((v : ℕ) → v < n → A v ↔ B v) → Answered n A p p' → Answered n B p p'
answered_as f a = record {
  long = a.long;
  answers = λ v l. ⊎_elim (λ x. inl ((f v l).0 x.0, x.1)) (λ x. inr (λ b. x.0 ((f v l).1 b), x.1)) (a.answers v l);
}
