-- The sign = and the others, as a match tells them apart.
use mathlib.Core.Path.{◌≡◌, refl, ap, ◌∙◌, subst}
use mathlib.Core.Logic.{◌≢◌}
use mathlib.Core.List.{[], ◌∷◌}
use native.Mathlib.Omega.{arith}
use types.Run.{OneOf, miss}
use denote.Enum.Declared.{tag_of}
use Rattle.xpath.specs.Syntax.{Op, eq, ne, lt, le, gt, ge}
use Rattle.rule_parts.specs.Kinds.{operator}
use Rattle.rule_parts.specs.declared.kinds.Operator.{Operator}
use Rattle.rule_parts.specs.declared.kinds.Operator.TheVariants.{Equal}
use Rattle.rule_parts.specs.contracts.kinds.Operator.{the_type}

pub equal_sign : (q : Op) → Equal ≡ operator q → q ≡ eq
equal_sign eq e = refl
equal_sign ne e = absurd (let z = ap (tag_of the_type) e in omega arith)
equal_sign lt e = absurd (let z = ap (tag_of the_type) e in omega arith)
equal_sign le e = absurd (let z = ap (tag_of the_type) e in omega arith)
equal_sign gt e = absurd (let z = ap (tag_of the_type) e in omega arith)
equal_sign ge e = absurd (let z = ap (tag_of the_type) e in omega arith)

abbrev Other : Operator → Type 0
Other o = OneOf (1 ∷ 2 ∷ 3 ∷ 4 ∷ 5 ∷ []) (tag_of the_type o)

pub other_sign : {o : Operator} (q : Op) → o ≡ operator q → Other o → q ≢ eq
other_sign q e k d = miss (1 ∷ 2 ∷ 3 ∷ 4 ∷ 5 ∷ []) 0 tt (subst Other (e ∙ ap operator d) k)
