-- `driver::by_values::compare_rule` meets its contract.
use native.Mathlib.Omega.{arith}
use Rattle.xpath.specs.Syntax.{compare, eq}
use Rattle.document_spec.specs.Binary.{tree_of}
use Rattle.driver.proofs.Frames.{scratch_room}
use Rattle.driver.proofs.Answers.{some_nodes}
use Rattle.driver.proofs.Arms.{test_begins}
use Rattle.driver.proofs.Lending.{paths_posed, paths_long, paths_apart, lent_apart}
use Rattle.driver.proofs.ByValues.{rule_paths, rule_compared}
use Rattle.driver.proofs.by_values.compare_rule.Goals as goal

-- ── Drawing the part ──
pub parted-c-requires : goal.parted-c-requires
parted-c-requires c = test_begins c.requires.0.4.stands

pub draw_paths-m-requires : goal.draw_paths-m-requires
draw_paths-m-requires c = let (s, ns, P, R, task) = c.requires.0 in (s, ns, compare eq P R, rule_paths task c.parted-c.ensures)

pub slice_bounds-compare_values-count : goal.slice_bounds-compare_values-count
slice_bounds-compare_values-count c = let r = scratch_room c.args.n (some_nodes c.requires.0.4.scene) in let e = c.needed-end.ensures in omega arith

pub slice_bounds-compare_values-start : goal.slice_bounds-compare_values-start
slice_bounds-compare_values-start c = let r = scratch_room c.args.n (some_nodes c.requires.0.4.scene) in let e = c.needed-end.ensures in omega arith

pub compare_values-own-requires : goal.compare_values-own-requires
compare_values-own-requires c =
    let ((s, ns, P, R, task), nodes) = c.requires in let ends = c.needed-end.ensures in
    let d = c.draw_paths-m.ensures s ns (compare eq P R) (rule_paths task c.parted-c.ensures) in
    ((P, R, tree_of ns, paths_posed task.scene d ends), paths_long task.scene d ends, nodes)

-- ── Taking the answers ──
pub take-requires : goal.take-requires
take-requires c =
    let (s, ns, P, R, task) = c.requires.0 in let ends = c.needed-end.ensures in
    let d = c.draw_paths-m.ensures s ns (compare eq P R) (rule_paths task c.parted-c.ensures) in
    let x = c.compare_values-own.ensures P R (tree_of ns) (paths_posed task.scene d ends) in
    let l = (lent_apart task.scene (paths_apart task.scene d ends) ends x.answered).long in
    let r = scratch_room c.args.n (some_nodes task.scene) in let h = task.scene.room in
    (omega arith, omega arith)

pub returns : goal.returns
returns c s ns P R task =
    let ends = c.needed-end.ensures in
    let d = c.draw_paths-m.ensures s ns (compare eq P R) (rule_paths task c.parted-c.ensures) in
    rule_compared task.scene d ends (c.compare_values-own.ensures P R (tree_of ns) (paths_posed task.scene d ends)) c.take.ensures
