-- `rule::check` meets its contract.
use native.Mathlib.Omega.{arith}
use mathlib.Core.Path.{sym, subst}
use Rattle.rule.specs.Check.{Judged}
use Rattle.rule.proofs.Verdicts.{too_long, read_judged, goes_on_judged, end_judged}
use Rattle.rule.proofs.check.Goals as goal

pub returns-then-s-gt-MAX_BYTES : goal.returns-then-s-gt-MAX_BYTES
returns-then-s-gt-MAX_BYTES c = too_long c.args.s.now c.if-s-gt-MAX_BYTES.true

pub returns-in_err-r : goal.returns-in_err-r
returns-in_err-r c = read_judged c.args.s.now (omega arith) _ _ c.from_residual.ensures.1 c.in_err-r.ensures

pub returns-then-r-s : goal.returns-then-r-s
returns-then-r-s c = goes_on_judged c.args.s.now (omega arith) c.in_ok-r.ensures c.if-r-s.true

pub returns : goal.returns
returns c =
    let s = c.args.s.now in
    let i = c.in_ok-r.ensures.inside in
    subst (Judged s) (sym c.within.ensures) (end_judged s (omega arith) c.in_ok-r.ensures (omega arith))
