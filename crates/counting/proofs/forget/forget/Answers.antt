-- `counting::forget::forget` meets its contract.
use Prim.Native.Nat.{◌<◌}
use mathlib.Core.Path.{sym, subst}
use native.Mathlib.Omega.{arith}
use Rattle.layout.specs.Part.{Space}
use Rattle.reach.proofs.Totals.{work_room}
use Rattle.counting.proofs.Forgetting.{forgetting_none, forgetting_space, forgetting_inside, forgetting_step, forgetting_all}
use Rattle.counting.proofs.forget.forget.Goals as goal

pub loop-h-init : goal.loop-h-init
loop-h-init c = let x = c.args in forgetting_none x.n x.p.now

pub node_at-u-requires : goal.node_at-u-requires
node_at-u-requires c = let r = work_room c.requires.work in let l = c.loop-h-test.true in ((let space-here : Space c.args.n c.loop-h.p = forgetting_space c.requires c.loop-h.invariant in space-here), omega arith)

pub put-requires : goal.put-requires
put-requires c = let r = (let space-here : Space c.args.n c.loop-h.p = forgetting_space c.requires c.loop-h.invariant in space-here).room in (omega arith, (let inside-here : c.node_at-u.result < c.args.n = subst (λ u. u < c.args.n) (sym c.node_at-u.ensures) (forgetting_inside c.requires c.loop-h.invariant c.loop-h-test.true) in inside-here), omega arith, omega arith)

pub put-requires-in-loop-h : goal.put-requires-in-loop-h
put-requires-in-loop-h c = let r = (let space-here : Space c.args.n c.loop-h.p = forgetting_space c.requires c.loop-h.invariant in space-here).room in let e = c.put.ensures.long in (omega arith, (let inside-here : c.node_at-u.result < c.args.n = subst (λ u. u < c.args.n) (sym c.node_at-u.ensures) (forgetting_inside c.requires c.loop-h.invariant c.loop-h-test.true) in inside-here), omega arith, omega arith)

pub loop-h-preserved : goal.loop-h-preserved
loop-h-preserved c =
    forgetting_step c.loop-h.invariant c.node_at-u.ensures (let inside-here : c.node_at-u.result < c.args.n = subst (λ u. u < c.args.n) (sym c.node_at-u.ensures) (forgetting_inside c.requires c.loop-h.invariant c.loop-h-test.true) in inside-here) c.put.ensures c.put-in-loop-h.ensures

-- ── Behind the last entry ──
pub returns : goal.returns
returns c = forgetting_all c.requires c.loop-h.invariant c.loop-h-test.false
