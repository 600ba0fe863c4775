-- `edge_snippets::rows::add_rows` meets its contract.
use native.Mathlib.Omega.{arith}
use Rattle.matrices.proofs.Drawing.{drawing_none, drawing_to}
use Rattle.edge_snippets.proofs.Crossing.{crossed_step}
use Rattle.edge_snippets.proofs.rows.add_rows.Goals as goal

pub loop-i-init : goal.loop-i-init
loop-i-init c = (omega arith, drawing_none _ _ _)

pub loop-i-preserved : goal.loop-i-preserved
loop-i-preserved c = let x = c.args in let l = c.loop-i.invariant in (omega arith, crossed_step x.rows x.set x.first c.widened.result l.1 (omega arith) c.widened.ensures)

pub returns : goal.returns
returns c = drawing_to (omega arith) c.loop-i.invariant.1
