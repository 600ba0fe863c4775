-- `pairs::seeds::seed` meets its contract.
use native.Mathlib.Omega.{arith}
use Rattle.pairs.proofs.Framing.{ready_kept}
use Rattle.pairs.proofs.Grows.{grown_none, grown_then}
use Rattle.pairs.proofs.Seeding.{met_more}
use Rattle.pairs.proofs.seeds.seed.Goals as goal

pub loop-y-init : goal.loop-y-init
loop-y-init c = (omega arith, grown_none _ _, λ y h l. absurd (let f : ⊥ = omega arith in f))

pub seed_edge-requires : goal.seed_edge-requires
seed_edge-requires c = (ready_kept c.loop-y.invariant.1.framed c.requires, omega arith, omega arith)

pub loop-y-preserved : goal.loop-y-preserved
loop-y-preserved c = (omega arith, grown_then c.loop-y.invariant.1 c.seed_edge.ensures.0, met_more (ready_kept c.loop-y.invariant.1.framed c.requires) (omega arith) c.seed_edge.ensures.0 c.loop-y.invariant.2 c.seed_edge.ensures.1)

pub returns : goal.returns
returns c = (c.loop-y.invariant.1, λ y h l. c.loop-y.invariant.2 y h (omega arith))
