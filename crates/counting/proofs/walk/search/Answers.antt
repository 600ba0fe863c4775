-- `counting::walk::search` meets its contract.
use mathlib.Core.Path.{◌∙◌}
use native.Mathlib.Omega.{arith}
use Rattle.reach.proofs.Totals.{work_room}
use Rattle.counting.proofs.Finding.{find_count}
use Rattle.counting.proofs.Searching.{searching_start, searching_looked, searching_step, searching_enough, searching_all}
use Rattle.counting.proofs.walk.search.Goals as goal

pub loop-h-init : goal.loop-h-init
loop-h-init c =
    let x = c.requires in
    searching_start x.0 x.1 x.2 c.insert-start.result c.insert-start.ensures c.add-len.ensures

pub find-count-requires : goal.find-count-requires
find-count-requires c =
    let g = c.loop-h.invariant in let few = g.fewer in let most = c.requires.3 in
    (g.working.work, c.loop-h-test.true, omega arith)

-- ── One entry, which is looked at ──
pub shape_of-p-then-count-k : goal.shape_of-p-then-count-k
shape_of-p-then-count-k c =
    (searching_looked c.loop-h.invariant c.loop-h-test.true c.find-count.ensures).working.spared.same.long ∙ c.add-len.ensures.spared.same.long

pub returns-then-count-k : goal.returns-then-count-k
returns-then-count-k c =
    searching_enough c.add-len.ensures (searching_looked c.loop-h.invariant c.loop-h-test.true c.find-count.ensures) c.loop-h-test.true
    (let e = c.if-count-k.true in omega arith)

pub expand-len-requires : goal.expand-len-requires
expand-len-requires c = ((searching_looked c.loop-h.invariant c.loop-h-test.true c.find-count.ensures).working.work, c.loop-h-test.true)

pub overflow_add-h : goal.overflow_add-h
overflow_add-h c =
    let g = c.loop-h.invariant.working.work in let r = work_room g in let f = g.space.few in let l = c.loop-h-test.true in omega arith

pub loop-h-smaller : goal.loop-h-smaller
loop-h-smaller c = let r = work_room c.loop-h.invariant.working.work in let l = c.loop-h-test.true in omega arith

pub loop-h-preserved : goal.loop-h-preserved
loop-h-preserved c =
    let few = c.loop-h.invariant.fewer in let most = find_count c.find-count.ensures in let d = c.if-count-k.false in
    searching_step (searching_looked c.loop-h.invariant c.loop-h-test.true c.find-count.ensures) c.loop-h-test.true (omega arith) c.expand-len.ensures

-- ── Behind the last entry ──
pub returns : goal.returns
returns c = searching_all c.add-len.ensures (omega (arith, c.well_formed.1.1.0)) c.loop-h.invariant c.loop-h-test.false
