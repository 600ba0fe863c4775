-- `rule_parts::kinds::longer_sign` meets its contract.
use mathlib.Core.Path.{sym, ap}
use Rattle.rule_parts.specs.Kinds.{longer}
use Rattle.rule_parts.proofs.Told.{longer_rest}
use Rattle.rule_parts.proofs.kinds.longer_sign.Goals as goal

pub returns-in-60 : goal.returns-in-60
returns-in-60 c = sym (ap longer c.in-60.is)

pub returns-in-62 : goal.returns-in-62
returns-in-62 c = sym (ap longer c.in-62.is)

pub returns-in_default : goal.returns-in_default
returns-in_default c = let n = c.in_default.in_default-own.rest in longer_rest _ n.0.1 n.1
