-- `skeletons::skeleton::climb` meets its contract.
use Prim.Native.Nat.{◌<◌}
use mathlib.Core.Path.{sym, ◌∙◌, subst}
use mathlib.Core.Bool.{false≢true}
use Rattle.group_marks.proofs.Raising.{height, height_less}
use Rattle.skeletons.proofs.Climbing.{climbing_none, climbing_step, climbing_at, climbing_top}
use Rattle.skeletons.proofs.skeleton.climb.Goals as goal

pub loop-x-init : goal.loop-x-init
loop-x-init c = let p = c.requires in climbing_none p.0.1 p.2 c.parent-x.ensures.0

pub returns-then-is_skeleton : goal.returns-then-is_skeleton
returns-then-is_skeleton c = let p = c.requires in climbing_at c.loop-x.invariant p.2 c.loop-x-test.true (λ t d g. (c.is_skeleton.ensures t d g).0 c.if-is_skeleton.true)

pub loop-x-smaller : goal.loop-x-smaller
loop-x-smaller c =
    let l = c.loop-x-test.true in let x = c.loop-x.x in
    subst (λ u. height u < height x) (sym c.parent-x-in-loop-x.ensures.0) (height_less c.requires.0.1 x l)

pub loop-x-preserved : goal.loop-x-preserved
loop-x-preserved c =
    climbing_step c.requires.0.1 c.loop-x.invariant c.loop-x-test.true
    (λ t d g k. false≢true (sym c.if-is_skeleton.false ∙ (c.is_skeleton.ensures t d g).1 k)) c.parent-x-in-loop-x.ensures.0

pub returns : goal.returns
returns c = climbing_top c.loop-x.invariant c.loop-x-test.false
