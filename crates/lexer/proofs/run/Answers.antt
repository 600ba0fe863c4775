-- `lexer::run` meets its contract.
use Prim.Native.Nat.{◌+◌}
use mathlib.Core.Path.{◌≡◌, sym, ◌∙◌, subst}
use lib.ListN.{get_or}
use native.Mathlib.Omega.{arith}
use Rattle.lexer.proofs.Laws.{run_ends, run_never, run_stops}
use Rattle.lexer.proofs.run.Goals as goal
use Rattle.lexer.proofs.run.Goals.{then-i-at-via-then-i-at, then-i-at-via-else-i-at+then-not-fits}

-- ── A byte at which the run ends ──
pub returns-then-b-eq10 : goal.returns-then-b-eq10
returns-then-b-eq10 c =
    let a = c.args in let l = c.loop-i in
    run_ends a.s.now a.at l.i a.k a.most l.invariant.from l.invariant.fits (omega arith) c.if-b-eq10.true l.invariant.short

pub returns-then-i-at : goal.returns-then-i-at
returns-then-i-at c =
    let a = c.args in let l = c.loop-i in
    elim c.then-i-at.branch [
      | then-i-at-via-then-i-at w ↦
          run_never a.s.now a.at l.i a.k a.most l.invariant.from l.invariant.fits
          (λ m p q r e h. let f = w.if-i-at.true in c.if-b-eq10.false (let z : a.at + m ≡ l.i = omega arith in subst (λ x. get_or a.s.now x 0 ≡ 10) z e))
      | then-i-at-via-else-i-at+then-not-fits w ↦
          run_stops a.s.now a.at l.i a.k a.most l.invariant.from l.invariant.fits c.if-b-eq10.false (sym w.fits.ensures ∙ w.if-not-fits.true)
    ]

-- ── No byte left ──
pub returns : goal.returns
returns c =
    let a = c.args in let l = c.loop-i in
    run_never a.s.now a.at l.i a.k a.most l.invariant.from l.invariant.fits (λ m p q r e h. omega arith)
