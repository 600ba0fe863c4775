-- `group_marks::marks::mark_group` meets its contract.
use Prim.Native.Nat.{suc}
use mathlib.Core.Path.{◌∙◌}
use native.Mathlib.Omega.{arith}
use Rattle.layout.specs.Groups.{NEXT}
use Rattle.layout.proofs.Frames.{within_then, before_within, room_within}
use Rattle.table.specs.Links.{Points}
use Rattle.buckets.specs.Buckets.{Least}
use Rattle.machine.proofs.Shape.{shape_within}
use Rattle.buckets.proofs.Least.{buckets_within, next_behind}
use Rattle.group_marks.proofs.Grouping.{grouping_none, grouping_next, grouping_step, grouping_all}
use Rattle.group_marks.proofs.marks.mark_group.Goals as goal

pub get-w-requires : goal.get-w-requires
get-w-requires c = let p = c.requires in let l = p.3 in (omega arith, omega arith, room_within c.fill.ensures.within p.1)

pub loop-w-init : goal.loop-w-init
loop-w-init c =
    let p = c.requires in let f = c.fill.ensures in
    grouping_none p.3 f (buckets_within (omega arith) f.within p.2) c.get-w.ensures.0

pub mark_member-requires : goal.mark_member-requires
mark_member-requires c =
    let p = c.requires in let g = c.loop-w.invariant in let w = within_then c.fill.ensures.within g.within in
    ((p.0.0, shape_within (omega arith) w p.0.1), room_within w p.1, c.loop-w-test.true, g.closed)

pub get-w-requires-in-loop-w : goal.get-w-requires-in-loop-w
get-w-requires-in-loop-w c =
    let w = within_then c.fill.ensures.within (within_then c.loop-w.invariant.within c.mark_member.ensures.raised.within) in
    (omega arith, c.loop-w-test.true, room_within w c.requires.1)

-- the next node of the bucket, as it was written before
next : (c : goal.After-get-w-in-loop-w) → Points (Least c.args.n c.fill.new.t (suc c.loop-w.w) c.args.r) c.get-w-in-loop-w.result
next c =
    let x = c.requires in
    grouping_next x.0.1.few x.3 (buckets_within (omega arith) c.fill.ensures.within x.2) c.loop-w.invariant c.loop-w-test.true
    (c.get-w-in-loop-w.ensures.0 ∙ before_within (within_then c.loop-w.invariant.within c.mark_member.ensures.raised.within) NEXT c.loop-w.w (omega arith) c.loop-w-test.true)

pub loop-w-smaller : goal.loop-w-smaller
loop-w-smaller c = next_behind c.requires.0.1.few c.loop-w-test.true (next c)

pub loop-w-preserved : goal.loop-w-preserved
loop-w-preserved c = grouping_step c.requires.0.1.few c.loop-w.invariant c.loop-w-test.true c.mark_member.ensures (next c)

pub returns : goal.returns
returns c = grouping_all c.fill.ensures c.loop-w.invariant c.loop-w-test.false
