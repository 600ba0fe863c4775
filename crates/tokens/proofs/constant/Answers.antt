-- `tokens::constant` meets its contract.
use Rattle.rule_spec.specs.Machine.{operand}
use Rattle.tokens.proofs.Refused.{handed_on}
use Rattle.tokens.proofs.Constants.{constant_halts, constant_reads}
use Rattle.tokens.proofs.constant.Goals as goal

pub returns-in_err-c : goal.returns-in_err-c
returns-in_err-c c = λ n.
    let a = c.args in
    handed_on a.s.now (operand n) a.at a.k a.t _ _ c.from_residual.ensures.1 (constant_halts a.s.now c.requires.0 n _ c.in_err-c.ensures)

pub returns : goal.returns
returns c = λ n.
    let a = c.args in
    constant_reads a.s.now c.requires.0 n a.k a.t c.in_ok-c.ensures c.closing.result c.closing.ensures
