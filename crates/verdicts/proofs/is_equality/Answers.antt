-- `verdicts::is_equality` meets its contract.
use mathlib.Core.Path.{◌≡◌, sym, subst}
use Rattle.rule_parts.specs.declared.kinds.Operator.TheVariants.{Equal}
use Rattle.verdicts.specs.Judging.{Equates}
use Rattle.verdicts.proofs.Equality.{some_bytes, other_kind, second_inside, other_sign, by_quote}
use Rattle.verdicts.proofs.is_equality.Goals as goal
use Rattle.verdicts.proofs.is_equality.Goals.{in-Equal, in_default-matches}

pub test_kind-requires : goal.test_kind-requires
test_kind-requires c = some_bytes c.requires.1

pub parted-m-requires : goal.parted-m-requires
parted-m-requires c = some_bytes c.requires.1

pub stands-requires : goal.stands-requires
stands-requires c = second_inside c.requires.1 c.test_kind.ensures c.in-Comparison.is c.parted-m.ensures

pub returns-then-matches : goal.returns-then-matches
returns-then-matches c T a =
    let e : c.parted-m.result.operator ≡ Equal = elim c.match-matches.branch [ in-Equal w ↦ w.in-Equal.is | in_default-matches w ↦ absurd cc ] in
    by_quote a c.test_kind.ensures c.in-Comparison.is c.parted-m.ensures e c.stands.result c.stands.ensures

pub returns-else-matches : goal.returns-else-matches
returns-else-matches c T a =
    elim c.match-matches.branch [
      | in-Equal w ↦ absurd cc
      | in_default-matches w ↦
          subst (Equates T) (sym w.matches-is) (other_sign a c.test_kind.ensures c.in-Comparison.is c.parted-m.ensures w.in_default-matches.not-Equal)
    ]

pub returns-in_default : goal.returns-in_default
returns-in_default c T a = other_kind a c.test_kind.ensures c.in_default.not-Comparison
