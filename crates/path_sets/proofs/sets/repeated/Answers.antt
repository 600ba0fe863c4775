-- `path_sets::sets::repeated` meets its contract.
use mathlib.Core.Path.{refl}
use Rattle.path_sets.proofs.SetLaws.{star_sets}
use Rattle.path_sets.proofs.sets.repeated.Goals as goal

pub returns : goal.returns
returns c = (λ P b h. star_sets P b _ _ refl refl refl refl h, refl)
