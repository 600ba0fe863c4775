-- `rule_parts::kinds::path_kind` meets its contract.
use native.Mathlib.Omega.{arith}
use mathlib.Core.Path.{sym, ap, ◌∙◌}
use Rattle.rule_parts.proofs.Told.{path_by, path_by_lem, path_rest}
use Rattle.rule_parts.proofs.kinds.path_kind.Goals as goal

pub returns-in-101 : goal.returns-in-101
returns-in-101 c = λ T j a. sym (ap path_by c.in-101.is) ∙ path_by_lem c.args.s.now (omega arith) a

pub returns-in-108 : goal.returns-in-108
returns-in-108 c = λ T j a. sym (ap path_by c.in-108.is) ∙ path_by_lem c.args.s.now (omega arith) a

pub returns-in-114 : goal.returns-in-114
returns-in-114 c = λ T j a. sym (ap path_by c.in-114.is) ∙ path_by_lem c.args.s.now (omega arith) a

pub returns-in-76 : goal.returns-in-76
returns-in-76 c = λ T j a. sym (ap path_by c.in-76.is) ∙ path_by_lem c.args.s.now (omega arith) a

pub returns-in-82 : goal.returns-in-82
returns-in-82 c = λ T j a. sym (ap path_by c.in-82.is) ∙ path_by_lem c.args.s.now (omega arith) a

pub returns-in-91 : goal.returns-in-91
returns-in-91 c = λ T j a. sym (ap path_by c.in-91.is) ∙ path_by_lem c.args.s.now (omega arith) a

pub returns-in-46 : goal.returns-in-46
returns-in-46 c = λ T j a. sym (ap path_by c.in-46.is) ∙ path_by_lem c.args.s.now (omega arith) a

pub returns-in-43 : goal.returns-in-43
returns-in-43 c = λ T j a. sym (ap path_by c.in-43.is) ∙ path_by_lem c.args.s.now (omega arith) a

pub returns-in_default : goal.returns-in_default
returns-in_default c = λ T j a.
    let n = c.in_default.in_default-own.rest in
    path_rest _ n.0.0.0.0.0.0.0.1 n.0.0.0.0.0.0.1 n.0.0.0.0.0.1 n.0.0.0.0.1 n.0.0.0.1 n.0.0.1 n.0.1 n.1 ∙ path_by_lem c.args.s.now (omega arith) a
