-- `plain::hits_at` meets its contract.
use native.Mathlib.Omega.{arith}
use Rattle.plain.proofs.Steady.{steady_reached}
use Rattle.plain.proofs.Compared.{hits_told}
use Rattle.plain.proofs.hits_at.Goals as goal

pub returns : goal.returns
returns c =
    let h = c.reach.ensures in
    (steady_reached h, hits_told (omega arith) h c.any_hit.ensures)
