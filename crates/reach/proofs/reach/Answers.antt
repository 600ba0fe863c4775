-- `reach::reach` meets its contract.
use native.Mathlib.Omega.{arith}
use Rattle.reach.proofs.Totals.{work_room}
use Rattle.reach.proofs.Adding.{spared_then}
use Rattle.reach.proofs.Clearing.{cleared_spared, cleared_work}
use Rattle.reach.proofs.Reaching.{working_start, working_step, working_all}
use Rattle.reach.proofs.reach.Goals as goal

pub add-len-requires : goal.add-len-requires
add-len-requires c = cleared_work c.fill.ensures c.requires.0

pub loop-h-init : goal.loop-h-init
loop-h-init c =
    let x = c.requires in
    working_start x.1 x.2 (cleared_work c.fill.ensures x.0) c.insert-w.result c.insert-w.ensures c.add-len.ensures

pub overflow_add-h : goal.overflow_add-h
overflow_add-h c =
    let g = c.loop-h.invariant.work in let r = work_room g in let f = g.space.few in let l = c.loop-h-test.true in
    omega arith

pub loop-h-smaller : goal.loop-h-smaller
loop-h-smaller c =
    let r = work_room c.loop-h.invariant.work in let l = c.loop-h-test.true in
    omega arith

pub loop-h-preserved : goal.loop-h-preserved
loop-h-preserved c = working_step (omega arith) c.loop-h.invariant c.loop-h-test.true c.expand-len.ensures

pub returns : goal.returns
returns c =
    working_all c.loop-h.invariant c.loop-h-test.false (spared_then (cleared_spared c.fill.ensures) c.add-len.ensures.spared)
