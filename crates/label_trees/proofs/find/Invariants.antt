-- `label_trees::find` meets its contract. Each line that is met is later than the one before, so the digits run out behind the last.
use Prim.Native.Nat.{◌+◌, ◌-◌}
use Rattle.label_trees.specs.Trees.{held}
use Rattle.label_trees.proofs.Searching.{Searching}
use Rattle.label_trees.proofs.find.Given as goal

abbrev pub invariant-loop-q : goal.invariant-loop-q
invariant-loop-q l = Searching l.s l.t l.from l.p l.b l.q

abbrev pub decreases-loop-q : goal.decreases-loop-q
decreases-loop-q l = held l.t + 1 - l.b
