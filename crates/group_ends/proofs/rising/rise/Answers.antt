-- `group_ends::rising::rise` meets its contract.
use Prim.Native.Nat.{suc, ◌-◌}
use mathlib.Core.Path.{◌≡◌, subst}
use native.Mathlib.Omega.{arith}
use Rattle.group_ends.specs.Steps.{Rises}
use Rattle.layout.proofs.Rest.{rest_within}
use Rattle.group_ends.proofs.Rest.{given_rest}
use Rattle.powers.proofs.Rest.{sizes_front}
use Rattle.group_ends.proofs.Ascending.{cleared_rest, rises_none, rises_then, rises_all}
use Rattle.group_ends.proofs.rising.rise.Goals as goal

pub clear-requires : goal.clear-requires
clear-requires c = let s = c.requires.sizes in let h = sizes_front s in (omega arith, s.few)

pub loop-v-init : goal.loop-v-init
loop-v-init c = (omega arith, rises_none _ _)

pub rise_from-v-requires : goal.rise_from-v-requires
rise_from-v-requires c = let i = c.loop-v.invariant in let l = c.loop-v-test.true in let h = i.0 in (given_rest (rest_within (omega arith) i.1.within) (given_rest (cleared_rest c.clear.ensures) c.requires), omega arith)

pub loop-v-preserved : goal.loop-v-preserved
loop-v-preserved c = let i = c.loop-v in let h = i.invariant.0 in let g = c.rise_from-v.ensures in let a = g.0 in let l = c.loop-v-test.true in let x = c.args in let e : i.v ≡ suc (i.v - 1) = omega arith in (omega arith, rises_then (subst (λ v. Rises x.m x.n x.b x.r x.n v c.clear.new.p i.p) e i.invariant.1) g.1)

pub returns : goal.returns
returns c = let l = c.loop-v-test.false in rises_all (omega arith) c.clear.ensures c.loop-v.invariant.1
