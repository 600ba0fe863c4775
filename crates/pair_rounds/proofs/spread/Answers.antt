-- `pair_rounds::spread` meets its contract.
use native.Mathlib.Omega.{arith}
use Rattle.pairs.proofs.Framing.{ready_kept}
use Rattle.pairs.proofs.Grows.{grown_none, grown_then}
use Rattle.pair_rounds.proofs.Passing.{round_less, passed_still}
use Rattle.pair_rounds.proofs.spread.Goals as goal

pub loop-r-init : goal.loop-r-init
loop-r-init c = (grown_none _ _, λ e. absurd (let f : ⊥ = omega arith in f))

pub round-r-requires : goal.round-r-requires
round-r-requires c = ready_kept c.loop-r.invariant.0.framed c.requires

pub loop-r-smaller : goal.loop-r-smaller
loop-r-smaller c = omega (arith, round_less c.round-r.ensures)

pub loop-r-preserved : goal.loop-r-preserved
loop-r-preserved c = (grown_then c.loop-r.invariant.0 c.round-r.ensures.grown, passed_still c.round-r.ensures)
