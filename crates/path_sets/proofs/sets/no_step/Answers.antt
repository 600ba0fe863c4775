-- `path_sets::sets::no_step` meets its contract.
use mathlib.Core.Path.{refl}
use Rattle.path_sets.proofs.SetLaws.{empty_sets}
use Rattle.path_sets.proofs.sets.no_step.Goals as goal

pub returns : goal.returns
returns c = (empty_sets _ _ refl refl refl refl, refl)
