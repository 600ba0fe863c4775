-- `edge_snippets::rows::add_rows` meets its contract.
use Prim.Native.Nat.{◌≤◌}
use Rattle.matrices.specs.Matrices.{Drawing}
use Rattle.edge_snippets.specs.Edges.{Crossed}
use Rattle.edge_snippets.proofs.rows.add_rows.Given as goal

abbrev pub invariant-loop-i : goal.invariant-loop-i
invariant-loop-i l = (l.i ≤ 16) × Drawing (Crossed l.initial.p l.at l.rows l.set l.first) l.at l.i l.initial.p l.p
