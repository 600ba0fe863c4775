-- `levels::levels` meets its contract.
use mathlib.Core.Path.{◌∙◌}
use native.Mathlib.Omega.{arith}
use Rattle.layout.proofs.Frames.{room_within}
use Rattle.machine.proofs.Shape.{shape_within}
use Rattle.levels.proofs.Levelling.{some_nodes, root_within, levelling_root, parent_known, greater_is, levelling_step, levelling_all}
use Rattle.levels.proofs.levels.Goals as goal

pub put-requires : goal.put-requires
put-requires c = let x = c.requires in (omega arith, some_nodes x.0.1, x.1, omega arith)

pub loop-v-init : goal.loop-v-init
loop-v-init c = levelling_root (some_nodes c.requires.0.1) c.put.ensures

pub enter-requires : goal.enter-requires
enter-requires c =
    let x = c.requires in let s = x.0.1 in let w = root_within (some_nodes s) c.put.ensures in
    let g = c.loop-v.invariant in let l = c.loop-v-test.true in
    let k = parent_known (shape_within (omega arith) w s) g l in
    let a = k.0 in let b = k.1 in let f = g.few in let few = s.few in
    (room_within g.within (room_within w x.1), l, omega arith, omega arith)

pub loop-v-preserved : goal.loop-v-preserved
loop-v-preserved c =
    let s = c.requires.0.1 in let w = root_within (some_nodes s) c.put.ensures in let e = c.enter.ensures in
    levelling_step (shape_within (omega arith) w s) c.loop-v.invariant c.loop-v-test.true e.0 e.1 (c.max-r.ensures ∙ greater_is c.loop-v.r c.enter.result)

pub returns : goal.returns
returns c = let s = c.requires.0.1 in let l = c.loop-v-test.false in levelling_all (some_nodes s) c.put.ensures (omega arith) c.loop-v.invariant
