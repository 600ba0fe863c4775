-- `path_sets::sets::one_step` meets its contract.
use mathlib.Core.Path.{refl}
use Rattle.path_sets.proofs.SetLaws.{one_sets}
use Rattle.path_sets.proofs.sets.one_step.Goals as goal

pub returns : goal.returns
returns c = (λ t. one_sets t _ _ refl c.insert-w.ensures refl refl, refl)
