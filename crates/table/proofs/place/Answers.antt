-- `table::place` meets its contract.
use native.Mathlib.Omega.{arith}
use Rattle.layout.proofs.Cells.{wrote_then}
use Rattle.table.proofs.place.Goals as goal

pub returns : goal.returns
returns c = wrote_then c.put.ensures (omega arith) c.put-2.ensures
