-- `pair_rounds::downwards` meets its contract.
use native.Mathlib.Omega.{arith}
use Rattle.pair_rounds.specs.Rounds.{Falls}
use Rattle.pairs.proofs.Framing.{ready_kept}
use Rattle.pair_rounds.proofs.Passing.{passed_map, passed_none, passed_small, down_more}
use Rattle.pair_rounds.proofs.downwards.Goals as goal

pub loop-y-init : goal.loop-y-init
loop-y-init c = (omega arith, passed_none _ _ (λ u h l. absurd (let f : ⊥ = omega arith in f)))

pub fall-r-requires : goal.fall-r-requires
fall-r-requires c = (ready_kept c.loop-y.invariant.1.grown.framed c.requires, omega arith, omega arith)

pub overflow_add-r : goal.overflow_add-r
overflow_add-r c = omega (arith, c.requires.few, passed_small c.loop-y.invariant.1, passed_small c.fall-r.ensures)

pub loop-y-preserved : goal.loop-y-preserved
loop-y-preserved c = (omega arith, down_more (Falls _) c.loop-y.invariant.1 c.fall-r.ensures)

pub returns : goal.returns
returns c = passed_map (λ f u h l. f u h (omega arith)) c.loop-y.invariant.1
