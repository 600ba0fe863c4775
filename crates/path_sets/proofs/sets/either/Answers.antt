-- `path_sets::sets::either` meets its contract.
use Rattle.std.proofs.Common.{rules}
use mathlib.Core.Path.{refl}
use Rattle.path_sets.proofs.SetLaws.{union_sets}
use Rattle.path_sets.proofs.sets.either.Goals as goal

pub returns : goal.returns
returns c = (λ P Q b h g. union_sets P Q b _ _ _ h g refl (search rules) c.union.ensures c.union-2.ensures, refl)
