-- `driver::paths::draw_paths` meets its contract.
use native.Mathlib.Omega.{arith}
use mathlib.Core.Path.{refl, ◌∙◌}
use Rattle.driver.proofs.Arms.{number_small}
use Rattle.driver.proofs.Asked.{two_paths, two_numbered, has_brackets}
use Rattle.driver.proofs.Lending.{draw_room, paths_drawn}
use Rattle.driver.proofs.paths.draw_paths.Goals as goal

pub machine_of-m-requires : goal.machine_of-m-requires
machine_of-m-requires c = two_paths c.requires.3

pub overflow_add-k : goal.overflow_add-k
overflow_add-k c = let h = number_small c.requires.3.task in omega arith

pub bracket_tests-numbers-requires : goal.bracket_tests-numbers-requires
bracket_tests-numbers-requires c = two_numbered c.requires.3

-- ── Drawing ──
pub draw-requires : goal.draw-requires
draw-requires c = draw_room c.requires.3.task.scene c.args.t.now refl

pub draw_tests-requires : goal.draw_tests-requires
draw_tests-requires c = let h = c.requires.3 in (draw_room h.task.scene c.draw.new.t c.draw.ensures.within.long, (has_brackets h c.bracket_tests-numbers.ensures).small)

pub draw_ranks-requires : goal.draw_ranks-requires
draw_ranks-requires c =
    let p = c.draw.ensures in let q = c.draw_tests.ensures in
    (draw_room c.requires.3.task.scene c.draw_tests.new.t (q.within.long ∙ p.within.long), c.ranks_of-c.ensures.0)

pub returns : goal.returns
returns c s ns T h =
    paths_drawn h c.machine_of-m.ensures c.bracket_tests-numbers.ensures c.draw.ensures c.draw_tests.ensures c.ranks_of-c.ensures.1 c.draw_ranks.ensures
