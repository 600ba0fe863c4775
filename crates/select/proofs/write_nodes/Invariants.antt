-- The loop of `select::write_nodes`: the lines of the marked nodes below the next one are written.
use Rattle.std.proofs.Common.{length, ◌-◌}
use Rattle.select.proofs.Printed.{WrittenBelow}
use Rattle.select.proofs.write_nodes.Given as goal

abbrev pub invariant-loop-node : goal.invariant-loop-node
invariant-loop-node g l = WrittenBelow (g.W.Write.contents l.initial.out) (g.W.Write.contents l.out) l.marks l.node

abbrev pub decreases-loop-node : goal.decreases-loop-node
decreases-loop-node g l = length l.marks - l.node
