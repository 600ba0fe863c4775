-- `table::enter` meets its contract.
use native.Mathlib.Omega.{arith}
use Rattle.layout.proofs.Cells.{wrote_then}
use Rattle.table.proofs.enter.Goals as goal

pub returns : goal.returns
returns c = wrote_then (wrote_then (wrote_then (wrote_then c.place.ensures (omega arith) c.put.ensures) (omega arith) c.put-2.ensures) (omega arith) c.put-3.ensures) (omega arith) c.put-4.ensures
