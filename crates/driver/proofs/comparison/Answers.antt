-- `driver::comparison` meets its contract.
use native.Mathlib.Omega.{arith}
use Rattle.test_numbers.specs.Tests.{tests_of, test}
use Rattle.driver.proofs.Frames.{scratch_room}
use Rattle.driver.proofs.Answers.{some_nodes}
use Rattle.driver.proofs.Arms.{number_small}
use Rattle.driver.proofs.Settling.{taken}
use Rattle.driver.proofs.comparison.Goals as goal

pub take-requires : goal.take-requires
take-requires c =
    let p = c.requires in let x = c.args in
    let l = (c.compare-snippets.ensures p.0 p.1 p.2 p.3).answers.apart.long in
    let r = scratch_room x.n (some_nodes p.2.scene) in let h = p.2.scene.room in
    (number_small p.2, omega arith)

pub returns : goal.returns
returns c ns T task shape =
    let x = c.compare-snippets.ensures ns T task shape in
    record { decided = taken (test (tests_of T) c.args.k) (some_nodes task.scene) x.answers c.take.ensures; adds = x.adds }
