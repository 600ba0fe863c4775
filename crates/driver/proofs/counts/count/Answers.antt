-- `driver::counts::count` meets its contract.
use native.Mathlib.Omega.{arith}
use Rattle.test_numbers.specs.Tests.{tests_of, test}
use Rattle.driver.proofs.Frames.{scratch_room}
use Rattle.driver.proofs.Answers.{some_nodes}
use Rattle.driver.proofs.Arms.{test_begins, number_small}
use Rattle.driver.proofs.Settling.{taken}
use Rattle.driver.proofs.Asked.{count_is, count_ready}
use Rattle.driver.proofs.Lending.{lent_apart, path_apart, count_asked, count_answers}
use Rattle.driver.proofs.counts.count.Goals as goal

-- ── Drawing the part ──
pub counted-c-requires : goal.counted-c-requires
counted-c-requires c = test_begins c.requires.3.stands

pub overflow_add-k : goal.overflow_add-k
overflow_add-k c = let h = number_small c.requires.3 in omega arith

pub draw_path-m-requires : goal.draw_path-m-requires
draw_path-m-requires c = let p = c.requires in (p.0, p.1, p.4.1, count_ready p.3 c.counted-c.ensures p.4)

pub slice_bounds-count_nodes-count : goal.slice_bounds-count_nodes-count
slice_bounds-count_nodes-count c = let r = scratch_room c.args.n (some_nodes c.requires.3.scene) in let e = c.needed-end.ensures in omega arith

pub slice_bounds-count_nodes-start : goal.slice_bounds-count_nodes-start
slice_bounds-count_nodes-start c = let r = scratch_room c.args.n (some_nodes c.requires.3.scene) in let e = c.needed-end.ensures in omega arith

pub count_nodes-requires : goal.count_nodes-requires
count_nodes-requires c =
    let p = c.requires in
    count_asked p.3.scene (c.draw_path-m.ensures p.0 p.1 p.4.1 (count_ready p.3 c.counted-c.ensures p.4)) c.needed-end.ensures

-- ── Taking the answers ──
pub take-requires : goal.take-requires
take-requires c =
    let p = c.requires in let x = c.args in
    let d = c.draw_path-m.ensures p.0 p.1 p.4.1 (count_ready p.3 c.counted-c.ensures p.4) in
    let l = (lent_apart p.3.scene (path_apart p.3.scene d) c.needed-end.ensures c.count_nodes.ensures).long in
    let k = number_small p.3 in let r = scratch_room x.n (some_nodes p.3.scene) in let h = p.3.scene.room in
    (omega arith, omega arith)

pub returns : goal.returns
returns c s ns T task shape =
    let counted = c.counted-c.ensures in
    let a = count_answers task.scene (c.draw_path-m.ensures s ns shape.1 (count_ready task counted shape)) c.needed-end.ensures (count_is task counted shape) c.count_nodes.ensures in
    taken (test (tests_of T) c.args.k) (some_nodes task.scene) a c.take.ensures
