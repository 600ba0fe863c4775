-- `driver::comparisons::between_paths` meets its contract.
use native.Mathlib.Omega.{arith}
use Rattle.document_spec.specs.Binary.{tree_of}
use Rattle.driver.proofs.Frames.{scratch_room}
use Rattle.driver.proofs.Answers.{some_nodes}
use Rattle.driver.proofs.Lending.{paths_posed, paths_long, paths_compared}
use Rattle.driver.proofs.comparisons.between_paths.Goals as goal

pub slice_bounds-compare_paths-count : goal.slice_bounds-compare_paths-count
slice_bounds-compare_paths-count c = let r = scratch_room c.args.n (some_nodes c.requires.2.task.scene) in let e = c.needed-end.ensures in omega arith

pub slice_bounds-compare_paths-start : goal.slice_bounds-compare_paths-start
slice_bounds-compare_paths-start c = let r = scratch_room c.args.n (some_nodes c.requires.2.task.scene) in let e = c.needed-end.ensures in omega arith

pub compare_paths-requires : goal.compare_paths-requires
compare_paths-requires c =
    let p = c.requires in let h = p.2 in let x = c.args in let ends = c.needed-end.ensures in
    let d = c.draw_paths-m.ensures x.s.now p.0 p.1 h in
    ((h.first, h.second, tree_of p.0, h.sign, h.told, paths_posed h.task.scene d ends), paths_long h.task.scene d ends)

pub returns : goal.returns
returns c ns T h =
    paths_compared h.task.scene (c.draw_paths-m.ensures c.args.s.now ns T h) c.needed-end.ensures h.told h.is c.compare_paths.ensures
