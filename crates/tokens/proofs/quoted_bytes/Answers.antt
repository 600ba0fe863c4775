-- `tokens::quoted_bytes` meets its contract.
use native.Mathlib.Omega.{arith}
use mathlib.Core.Path.{◌≡◌, refl, sym, ◌∙◌}
use lib.ListN.{length}
use Rattle.tokens.proofs.Constants.{quoted_none, quoted_more, quoted_ends, quoted_end, quoted_full, quoted_stops}
use Rattle.tokens.proofs.quoted_bytes.Goals as goal
use Rattle.tokens.proofs.quoted_bytes.Goals.{then-i-at-via-then-i-at, then-i-at-via-else-i-at+then-not-fits}

pub loop-i-init : goal.loop-i-init
loop-i-init c = quoted_none _ _

pub returns-then-b-eq34 : goal.returns-then-b-eq34
returns-then-b-eq34 c =
    quoted_ends c.args.s.now c.loop-i.invariant (omega arith) c.if-b-eq34.true (omega arith)

pub returns-then-i-at : goal.returns-then-i-at
returns-then-i-at c =
    elim c.then-i-at.branch [
      | then-i-at-via-then-i-at w ↦ quoted_full c.args.s.now c.loop-i.invariant (omega arith) c.if-b-eq34.false (let e = w.if-i-at.true in omega arith)
      | then-i-at-via-else-i-at+then-not-fits w ↦
          quoted_stops c.args.s.now c.loop-i.invariant (omega arith) c.if-b-eq34.false (sym w.fits.ensures ∙ w.if-not-fits.true)
    ]

pub loop-i-preserved : goal.loop-i-preserved
loop-i-preserved c =
    quoted_more c.args.s.now _ c.loop-i.invariant (omega arith) refl c.if-b-eq34.false (let n = c.if-i-at.false in omega arith) (sym c.fits.ensures ∙ c.if-not-fits.false)

pub returns : goal.returns
returns c = let e : c.loop-i.i ≡ length c.args.s.now = omega arith in rw e at (quoted_end c.args.s.now c.loop-i.invariant e)
