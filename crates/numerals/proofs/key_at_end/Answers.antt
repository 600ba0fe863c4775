-- `numerals::key_at_end` meets its contract.
use Prim.Native.Nat.{◌+◌, ◌-◌}
use mathlib.Core.Path.{ap, ◌∙◌}
use native.Mathlib.Omega.{arith}
use Rattle.numerals.specs.Keys.{bias}
use Rattle.numerals.proofs.Scans.{key_none, key_minus, key_plus}
use Rattle.numerals.proofs.key_at_end.Goals as goal

pub returns-then-c-eq0 : goal.returns-then-c-eq0
returns-then-c-eq0 c = let a = c.args.c in key_none a.minus a.count _ (omega arith)

pub returns-then-c : goal.returns-then-c
returns-then-c c =
    let a = c.args.c in
    ap (λ n. bias - n) c.padded-n.ensures.0 ∙ key_minus a.minus a.count _ c.if-c-eq0.false c.if-c.true

pub returns-else-c : goal.returns-else-c
returns-else-c c =
    let a = c.args.c in
    ap (λ n. bias + n) c.padded-n.ensures.0 ∙ key_plus a.minus a.count _ c.if-c-eq0.false c.if-c.false
