-- `tokens::figures` meets its contract.
use lib.ListN.{get_or}
use native.Mathlib.Omega.{arith}
use mathlib.Core.Path.{sym, ◌∙◌}
use Rattle.rule_spec.proofs.Figures.{goesOn_iff}
use Rattle.tokens.proofs.Numbers.{in_digits, none_at_end, ended, none_here, first_digit, next_digit, none_next}
use Rattle.tokens.proofs.figures.Goals as goal

-- ── The first digit ──
pub returns-then-at-s : goal.returns-then-at-s
returns-then-at-s c = none_at_end c.args.s.now c.if-at-s.true

pub returns-then-not-fits : goal.returns-then-not-fits
returns-then-not-fits c =
    none_here c.args.s.now (omega arith) (sym c.fits.ensures ∙ c.if-not-fits.true)

pub with_digit-n-requires : goal.with_digit-n-requires
with_digit-n-requires c = (omega arith, in_digits _ (sym c.fits.ensures ∙ c.if-not-fits.false))

pub loop-i-init : goal.loop-i-init
loop-i-init c =
    let a = c.args in
    let e = sym c.fits.ensures ∙ c.if-not-fits.false in
    let d = in_digits (get_or a.s.now a.at 0) e in
    (omega arith, first_digit a.s.now (omega arith) e c.with_digit-n.ensures)

-- ── One digit more ──
pub returns-then-not-goes_on : goal.returns-then-not-goes_on
returns-then-not-goes_on c =
    sym (c.loop-i.invariant.1 ∙ none_next c.args.s.now (omega arith) c.loop-i.n (sym c.goes_on.ensures ∙ c.if-not-goes_on.true))

pub with_digit-n-requires-in-loop-i : goal.with_digit-n-requires-in-loop-i
with_digit-n-requires-in-loop-i c =
    let l = c.loop-i in
    (l.invariant.0, ((goesOn_iff l.n _).0 (sym c.goes_on.ensures ∙ c.if-not-goes_on.false)).0)

pub loop-i-preserved : goal.loop-i-preserved
loop-i-preserved c =
    let s = c.args.s.now in
    let e = sym c.goes_on.ensures ∙ c.if-not-goes_on.false in
    let d = (goesOn_iff c.loop-i.n (get_or s c.loop-i.i 0)).0 e in
    (omega arith, c.loop-i.invariant.1 ∙ next_digit s (omega arith) c.loop-i.n e c.with_digit-n-in-loop-i.ensures)

pub returns : goal.returns
returns c = sym (c.loop-i.invariant.1 ∙ ended _ (omega arith))
