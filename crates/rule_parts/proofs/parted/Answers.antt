-- `rule_parts::parted` meets its contract.
use native.Mathlib.Omega.{arith}
use Rattle.rule_parts.proofs.Sides as sides
use Rattle.rule_parts.proofs.parted.Goals as goal

pub returns-then-m-s : goal.returns-then-m-s
returns-then-m-s c =
    let a = c.args in
    sides.parted a.s.now a.at c.skip_path-m.ensures c.read_sign-sign.result c.read_sign-sign.ensures

pub returns : goal.returns
returns c = λ T j h.
    let a = c.args in
    sides.no_room a.s.now a.at c.skip_path-m.ensures (omega arith) T j h _
