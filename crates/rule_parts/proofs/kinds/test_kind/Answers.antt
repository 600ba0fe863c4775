-- `rule_parts::kinds::test_kind` meets its contract.
use native.Mathlib.Omega.{arith}
use mathlib.Core.Path.{sym, ap, ◌∙◌}
use Rattle.rule_parts.proofs.Told.{test_by, test_by_lem, test_rest}
use Rattle.rule_parts.proofs.kinds.test_kind.Goals as goal

pub returns-in-58 : goal.returns-in-58
returns-in-58 c = λ T j a. sym (ap test_by c.in-58.is) ∙ test_by_lem c.args.s.now (omega arith) a

pub returns-in-33 : goal.returns-in-33
returns-in-33 c = λ T j a. sym (ap test_by c.in-33.is) ∙ test_by_lem c.args.s.now (omega arith) a

pub returns-in-38 : goal.returns-in-38
returns-in-38 c = λ T j a. sym (ap test_by c.in-38.is) ∙ test_by_lem c.args.s.now (omega arith) a

pub returns-in-124 : goal.returns-in-124
returns-in-124 c = λ T j a. sym (ap test_by c.in-124.is) ∙ test_by_lem c.args.s.now (omega arith) a

pub returns-in-35 : goal.returns-in-35
returns-in-35 c = λ T j a. sym (ap test_by c.in-35.is) ∙ test_by_lem c.args.s.now (omega arith) a

pub returns-in_default : goal.returns-in_default
returns-in_default c = λ T j a.
    let n = c.in_default.in_default-own.rest in
    test_rest _ n.0.0.0.0.1 n.0.0.0.1 n.0.0.1 n.0.1 n.1 ∙ test_by_lem c.args.s.now (omega arith) a
