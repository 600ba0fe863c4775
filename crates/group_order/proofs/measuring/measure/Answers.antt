-- `group_order::measuring::measure` meets its contract.
use Prim.Native.Nat.{◌≤◌, ◌<◌}
use mathlib.Core.Path.{◌≡◌, subst}
use native.Mathlib.Omega.{arith}
use Rattle.layout.specs.Table.{Room}
use Rattle.layout.proofs.Frames.{room_within}
use Rattle.group_order.specs.Steps.{Sized}
use Rattle.group_order.proofs.Sizing.{sized_none, sized_rank, sized_few, sized_step, sized_all}
use Rattle.group_order.proofs.measuring.measure.Goals as goal

pub loop-v-init : goal.loop-v-init
loop-v-init c = sized_none c.fill.ensures

pub get-r-requires : goal.get-r-requires
get-r-requires c = (omega arith, c.loop-v-test.true, (let room-here : Room c.args.n c.loop-v.p = room_within c.loop-v.invariant.within (room_within c.fill.ensures.within c.requires.1) in room-here))

pub get-size-requires : goal.get-size-requires
get-size-requires c = (omega arith, (let rank-here : c.get-r.result < c.args.n = sized_rank c.requires.0 c.fill.ensures c.loop-v.invariant c.loop-v-test.true c.get-r.ensures.0 in rank-here), (let room-here : Room c.args.n c.loop-v.p = room_within c.loop-v.invariant.within (room_within c.fill.ensures.within c.requires.1) in room-here))

pub put-requires : goal.put-requires
put-requires c =
    let few = c.requires.2 in let l = c.loop-v-test.true in let k = (let size-here : c.get-size.result ≤ c.loop-v.v = sized_few c.loop-v.invariant (let rank-here : c.get-r.result < c.args.n = sized_rank c.requires.0 c.fill.ensures c.loop-v.invariant c.loop-v-test.true c.get-r.ensures.0 in rank-here) c.get-size.ensures.0 in size-here) in
    (omega arith, (let rank-here : c.get-r.result < c.args.n = sized_rank c.requires.0 c.fill.ensures c.loop-v.invariant c.loop-v-test.true c.get-r.ensures.0 in rank-here), (let room-here : Room c.args.n c.loop-v.p = room_within c.loop-v.invariant.within (room_within c.fill.ensures.within c.requires.1) in room-here), omega arith)

pub loop-v-preserved : goal.loop-v-preserved
loop-v-preserved c =
    sized_step c.loop-v.invariant c.loop-v-test.true (let rank-here : c.get-r.result < c.args.n = sized_rank c.requires.0 c.fill.ensures c.loop-v.invariant c.loop-v-test.true c.get-r.ensures.0 in rank-here) c.get-r.ensures.0 c.get-size.ensures.0 c.put.ensures

pub returns : goal.returns
returns c =
    let i = c.loop-v in let l = c.loop-v-test.false in let h = i.invariant.inside in let a = c.args in let e : i.v ≡ a.n = omega arith in
    sized_all c.fill.ensures (subst (λ v. Sized a.n v c.fill.new.t i.p) e i.invariant)
