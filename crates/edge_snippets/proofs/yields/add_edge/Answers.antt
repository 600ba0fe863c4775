-- `edge_snippets::yields::add_edge` meets its contract.
use native.Mathlib.Omega.{arith}
use Rattle.lifting.proofs.Stretching.{stretch_short}
use Rattle.lifting.proofs.Rest.{stretch_kept}
use Rattle.edge_snippets.proofs.Yielding.{both_gained}
use Rattle.edge_snippets.proofs.yields.add_edge.Goals as goal

pub exponent-k-requires : goal.exponent-k-requires
exponent-k-requires c = let s = c.requires in let h = stretch_short s.0 in let q = s.1 in (omega arith, omega arith)

pub add_lower-requires : goal.add_lower-requires
add_lower-requires c = (stretch_kept c.add_upper.ensures.rest c.requires.0, c.exponent-k.ensures)

pub returns : goal.returns
returns c = both_gained c.add_upper.ensures c.add_lower.ensures
