-- `compiler::machine` meets its contract.
use mathlib.Core.Path.{refl}
use Rattle.compiler.proofs.Machines.{known_inside, known_middle, machine_told}
use Rattle.compiler.proofs.machine.Goals as goal

pub steps_with-requires : goal.steps_with-requires
steps_with-requires c = known_inside c.requires

pub steps_with-requires-2 : goal.steps_with-requires-2
steps_with-requires-2 c = known_inside c.requires

pub steps_with-requires-3 : goal.steps_with-requires-3
steps_with-requires-3 c = known_inside c.requires

pub steps_with-requires-4 : goal.steps_with-requires-4
steps_with-requires-4 c = known_inside c.requires

pub steps_with-requires-5 : goal.steps_with-requires-5
steps_with-requires-5 c = known_inside c.requires

pub up_to-requires : goal.up_to-requires
up_to-requires c = known_middle c.requires

pub returns : goal.returns
returns c = machine_told c.rows_of.ensures c.steps_with.ensures c.steps_with-2.ensures c.steps_with-3.ensures c.steps_with-4.ensures c.steps_with-5.ensures refl c.up_to.ensures refl
