-- The kinds of tests and paths, and the signs.
use Rattle.std.specs.Prelude.{ℕ, eqb}
use Rattle.xpath.specs.Syntax.{Op, eq, ne, lt, le, gt, ge, Test, named, not, and, or, compare, compare_to, at_least, XPath, empty, one, seq, union, star, to_left, to_right, from_left, from_right, stay}
use Rattle.rule_spec.specs.Bytes.{choose}
use Rattle.rule_parts.specs.declared.kinds.TestKind.{TestKind}
use Rattle.rule_parts.specs.declared.kinds.TestKind.TheVariants.{Named, Not, And, Or, Comparison, Count}
use Rattle.rule_parts.specs.declared.kinds.PathKind.{PathKind}
use Rattle.rule_parts.specs.declared.kinds.PathKind.TheVariants.{Empty, ToLeft, ToRight, FromLeft, FromRight, Stay, Seq, Union, Star}
use Rattle.rule_parts.specs.declared.kinds.Operator.{Operator}
use Rattle.rule_parts.specs.declared.kinds.Operator.TheVariants.{Equal, Unequal, Less, LessEqual, Greater, GreaterEqual}
use Rattle.rule_parts.specs.declared.kinds.Sign.{Sign}

abbrev pub test_kind : Test → TestKind
test_kind (named a) = Named
test_kind (not T) = Not
test_kind (and T U) = And
test_kind (or T U) = Or
test_kind (compare o P Q) = Comparison
test_kind (compare_to o P c) = Comparison
test_kind (at_least n P) = Count

abbrev pub path_kind : XPath → PathKind
path_kind empty = Empty
path_kind (one to_left) = ToLeft
path_kind (one to_right) = ToRight
path_kind (one from_left) = FromLeft
path_kind (one from_right) = FromRight
path_kind (one (stay T)) = Stay
path_kind (seq P Q) = Seq
path_kind (union P Q) = Union
path_kind (star P) = Star

abbrev pub operator : Op → Operator
operator eq = Equal
operator ne = Unequal
operator lt = Less
operator le = LessEqual
operator gt = Greater
operator ge = GreaterEqual

-- the sign o ends at j
abbrev pub signed : Op → ℕ → Sign
signed o j = record { operator = operator o; next = j }

-- the signs by their first byte, with = behind it and without
abbrev pub longer : ℕ → Operator
longer b = choose (eqb b 60) LessEqual (choose (eqb b 62) GreaterEqual Unequal)

abbrev pub shorter : ℕ → Operator
shorter b = choose (eqb b 60) Less (choose (eqb b 62) Greater Equal)
