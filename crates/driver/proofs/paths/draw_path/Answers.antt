-- `driver::paths::draw_path` meets its contract.
use mathlib.Core.Path.{refl}
use Rattle.driver.proofs.Asked.{one_path, one_numbered, has_brackets_alone, path_drawn}
use Rattle.driver.proofs.Lending.{draw_room}
use Rattle.driver.proofs.paths.draw_path.Goals as goal

pub machine_of-m-requires : goal.machine_of-m-requires
machine_of-m-requires c = one_path c.requires.3

pub bracket_tests-numbers-requires : goal.bracket_tests-numbers-requires
bracket_tests-numbers-requires c = one_numbered c.requires.3

pub draw-requires : goal.draw-requires
draw-requires c = draw_room c.requires.3.scene c.args.t.now refl

pub draw_tests-requires : goal.draw_tests-requires
draw_tests-requires c = let h = c.requires.3 in (draw_room h.scene c.draw.new.t c.draw.ensures.within.long, (has_brackets_alone h c.bracket_tests-numbers.ensures).small)

pub returns : goal.returns
returns c s ns P h = path_drawn h c.machine_of-m.ensures c.bracket_tests-numbers.ensures c.draw.ensures c.draw_tests.ensures
