-- `counting::forget::node_at` meets its contract.
use native.Mathlib.Omega.{arith}
use Rattle.layout.specs.Part.{NODES}
use Rattle.layout.specs.Words.{cell}
use Rattle.counting.proofs.forget.node_at.Goals as goal

pub overflow_cast-result : goal.overflow_cast-result
overflow_cast-result c = let x = c.args in omega (arith, c.type_inv.p (cell x.n NODES x.h))
