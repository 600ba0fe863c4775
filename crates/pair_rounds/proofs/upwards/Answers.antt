-- `pair_rounds::upwards` meets its contract.
use native.Mathlib.Omega.{arith}
use Rattle.pair_rounds.specs.Rounds.{Rises}
use Rattle.pairs.proofs.Framing.{ready_kept}
use Rattle.pair_rounds.proofs.Passing.{passed_map, passed_none, passed_small, up_more}
use Rattle.pair_rounds.proofs.upwards.Goals as goal

pub loop-y-init : goal.loop-y-init
loop-y-init c = passed_none _ _ (λ u h k l. absurd (let f : ⊥ = omega arith in f))

pub rise-r-requires : goal.rise-r-requires
rise-r-requires c = (ready_kept c.loop-y.invariant.grown.framed c.requires, omega arith, omega arith)

pub overflow_add-r : goal.overflow_add-r
overflow_add-r c = omega (arith, c.requires.few, passed_small c.loop-y.invariant, passed_small c.rise-r.ensures)

pub loop-y-preserved : goal.loop-y-preserved
loop-y-preserved c = up_more (Rises _) c.loop-y.invariant c.rise-r.ensures

pub returns : goal.returns
returns c = passed_map (λ f u h l. f u h (omega arith) l) c.loop-y.invariant
