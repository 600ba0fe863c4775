-- `loops::find_loops` meets its contract.
use native.Mathlib.Omega.{arith}
use Rattle.detours.specs.Visits.{Ready}
use Rattle.loops.proofs.Grows.{ready_kept, grown_none, grown_then}
use Rattle.loops.proofs.Passing.{total_le, ready_of, passed_settled, found}
use Rattle.loops.proofs.find_loops.Goals as goal

pub start-requires : goal.start-requires
start-requires c = let h = c.requires in ready_of h.0.3 h.1

pub loop-changed-init : goal.loop-changed-init
loop-changed-init c = ((0, grown_none _ _ _), λ e. absurd (let f : ⊥ = omega arith in f))

pub round-changed-requires : goal.round-changed-requires
round-changed-requires c =
    let n = c.args.n in
    let h = c.requires in
    let s = c.start.ensures in
    let begun : Ready n c.start.new.p = ready_kept s.frame (ready_of h.0.3 h.1) in
    let g = c.loop-changed.invariant.0.1 in
    (ready_kept g.frame begun, h.2)

pub loop-changed-smaller : goal.loop-changed-smaller
loop-changed-smaller c =
    let g = c.round-changed.ensures.grown in
    let n = c.args.n in
    let s = total_le n c.loop-changed.p in
    let t = total_le n c.round-changed.new.p in
    omega (arith, g.count)

pub loop-changed-preserved : goal.loop-changed-preserved
loop-changed-preserved c =
    let w = c.round-changed.ensures in
    ((_, grown_then c.loop-changed.invariant.0.1 w.grown), passed_settled w)

pub returns : goal.returns
returns c P R t stage =
    let l = c.loop-changed.invariant in
    found c.start.ensures l.0.1 (l.1 (omega arith)) stage
