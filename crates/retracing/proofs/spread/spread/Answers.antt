-- `retracing::spread::spread` meets its contract.
use native.Mathlib.Omega.{arith}
use Rattle.reach.proofs.Totals.{work_room}
use Rattle.retracing.proofs.Spreading.{backing_start, backing_step, backing_all}
use Rattle.retracing.proofs.spread.spread.Goals as goal

pub loop-h-init : goal.loop-h-init
loop-h-init c = let x = c.requires in backing_start x.0 x.1 x.2 c.add-end.ensures

pub overflow_add-h : goal.overflow_add-h
overflow_add-h c =
    let g = c.loop-h.invariant.grown.work in let r = work_room g in let f = g.space.few in let l = c.loop-h-test.true in
    omega arith

pub loop-h-smaller : goal.loop-h-smaller
loop-h-smaller c =
    let r = work_room c.loop-h.invariant.grown.work in let l = c.loop-h-test.true in
    omega arith

pub loop-h-preserved : goal.loop-h-preserved
loop-h-preserved c = backing_step c.loop-h.invariant c.loop-h-test.true c.retrace-end.ensures

pub returns : goal.returns
returns c =
    backing_all c.add-end.ensures c.loop-h.invariant c.loop-h-test.false
