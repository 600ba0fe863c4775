-- `rule_parts::kinds::read_sign` meets its contract.
use Prim.Native.Nat.{◌+◌}
use native.Mathlib.Omega.{arith}
use mathlib.Core.Path.{ap, ◌∙◌, subst}
use Rattle.tokens.specs.Readers.{Stood}
use Rattle.rule_parts.proofs.Told.{made, long_sign, short_sign}
use Rattle.rule_parts.proofs.kinds.read_sign.Goals as goal

pub returns-then-stands : goal.returns-then-stands
returns-then-stands c = λ o j h.
    let a = c.args in
    let s = a.s.now in
    ap (λ x. made x (a.at + 2)) c.longer_sign.ensures ∙ long_sign s (omega arith) (subst (Stood s (a.at + 1) 61) c.if-stands.true c.stands.ensures) o j h

pub returns : goal.returns
returns c = λ o j h.
    let a = c.args in
    let s = a.s.now in
    ap (λ x. made x (a.at + 1)) c.shorter_sign.ensures ∙ short_sign s (omega arith) (subst (Stood s (a.at + 1) 61) c.if-stands.false c.stands.ensures) o j h
