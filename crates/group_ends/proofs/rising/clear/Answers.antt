-- `group_ends::rising::clear` meets its contract.
use mathlib.Core.Path.{◌≡◌, subst}
use native.Mathlib.Omega.{arith}
use Rattle.layout.proofs.Frames.{room_within}
use Rattle.group_ends.specs.Steps.{Cleared}
use Rattle.group_ends.proofs.Ascending.{cleared_none}
use Rattle.group_ends.proofs.rising.clear.Goals as goal

pub loop-v-init : goal.loop-v-init
loop-v-init c = cleared_none c.args.n c.args.p.now

pub clear_from-v-requires : goal.clear_from-v-requires
clear_from-v-requires c = let p = c.requires in (room_within c.loop-v.invariant.within p.0, c.loop-v-test.true, p.1)

pub returns : goal.returns
returns c = let g = c.loop-v.invariant in let x = c.args in let i = g.inside in let l = c.loop-v-test.false in let whole : c.loop-v.v ≡ x.n = omega arith in subst (λ v. Cleared x.n v x.p.now c.loop-v.p) whole g
