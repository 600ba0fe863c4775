-- `driver::comparisons::with_constant` meets its contract.
use native.Mathlib.Omega.{arith}
use Rattle.driver.proofs.Frames.{scratch_room}
use Rattle.driver.proofs.Answers.{some_nodes}
use Rattle.driver.proofs.Arms.{number_small}
use Rattle.driver.proofs.Asked.{constant_ready}
use Rattle.driver.proofs.Lending.{draw_room, drawn_scene, constant_asked, constant_compared}
use Rattle.driver.proofs.comparisons.with_constant.Goals as goal

pub overflow_add-k : goal.overflow_add-k
overflow_add-k c = let h = number_small c.requires.2.task in omega arith

pub draw_path-m-requires : goal.draw_path-m-requires
draw_path-m-requires c = let p = c.requires in (c.args.s.now, p.0, p.2.first, constant_ready p.2)

pub draw_hits-requires : goal.draw_hits-requires
draw_hits-requires c =
    let p = c.requires in let h = p.2 in let d = c.draw_path-m.ensures c.args.s.now p.0 h.first (constant_ready h) in
    ((drawn_scene h.task.scene (omega arith) d.within).annotated, draw_room h.task.scene c.draw_path-m.new.t d.within.long, h.ordered, h.inside)

pub slice_bounds-compare_constant-count : goal.slice_bounds-compare_constant-count
slice_bounds-compare_constant-count c = let r = scratch_room c.args.n (some_nodes c.requires.2.task.scene) in let e = c.needed-end.ensures in omega arith

pub slice_bounds-compare_constant-start : goal.slice_bounds-compare_constant-start
slice_bounds-compare_constant-start c = let r = scratch_room c.args.n (some_nodes c.requires.2.task.scene) in let e = c.needed-end.ensures in omega arith

pub compare_constant-requires : goal.compare_constant-requires
compare_constant-requires c =
    let p = c.requires in let h = p.2 in let d = c.draw_path-m.ensures c.args.s.now p.0 h.first (constant_ready h) in let q = drawn_scene h.task.scene (omega arith) d.within in
    constant_asked h d (c.draw_hits.ensures p.0 h.sign h.task.scene.library q.ranked q.weighed h.told) c.needed-end.ensures

pub returns : goal.returns
returns c ns T h =
    let d = c.draw_path-m.ensures c.args.s.now ns h.first (constant_ready h) in let q = drawn_scene h.task.scene (omega arith) d.within in
    constant_compared h d (c.draw_hits.ensures ns h.sign h.task.scene.library q.ranked q.weighed h.told) c.needed-end.ensures c.compare_constant.ensures
