-- `tokens::closing` meets its contract.
use native.Mathlib.Omega.{arith}
use native.Mathlib.Numerals.{add-one}
use mathlib.Core.Path.{subst}
use Rattle.tokens.specs.Readers.{Stood}
use Rattle.tokens.proofs.Bytes.{byte_back, byte_stuck}
use Rattle.tokens.proofs.closing.Goals as goal

pub returns-then-stands : goal.returns-then-stands
returns-then-stands c =
    let a = c.args in
    byte_back a.s.now (subst (Stood a.s.now a.at a.x) c.if-stands.true c.stands.ensures) (add-one a.at) (omega arith)

pub returns-else-stands : goal.returns-else-stands
returns-else-stands c =
    let a = c.args in
    byte_stuck a.s.now (subst (Stood a.s.now a.at a.x) c.if-stands.false c.stands.ensures)
