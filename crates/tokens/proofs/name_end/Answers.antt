-- `tokens::name_end` meets its contract.
use native.Mathlib.Omega.{arith}
use mathlib.Core.Path.{◌≡◌, refl, sym, ◌∙◌}
use lib.ListN.{length}
use Rattle.tokens.proofs.Names.{tail_none, tail_more, tail_end, tail_full, tail_stops}
use Rattle.tokens.proofs.name_end.Goals as goal
use Rattle.tokens.proofs.name_end.Goals.{then-i-at-via-then-i-at, then-i-at-via-else-i-at+then-not-fits}

pub loop-i-init : goal.loop-i-init
loop-i-init c = tail_none _ _

pub returns-then-i-at : goal.returns-then-i-at
returns-then-i-at c =
    elim c.then-i-at.branch [
      | then-i-at-via-then-i-at w ↦ tail_full c.args.s.now c.loop-i.invariant (omega arith) w.if-i-at.true
      | then-i-at-via-else-i-at+then-not-fits w ↦ tail_stops c.args.s.now c.loop-i.invariant (omega arith) (sym w.fits.ensures ∙ w.if-not-fits.true)
    ]

pub loop-i-preserved : goal.loop-i-preserved
loop-i-preserved c =
    tail_more c.args.s.now _ c.loop-i.invariant (omega arith) refl c.if-i-at.false (sym c.fits.ensures ∙ c.if-not-fits.false)

pub returns : goal.returns
returns c = let e : c.loop-i.i ≡ length c.args.s.now = omega arith in rw e at (tail_end c.args.s.now c.loop-i.invariant e)
