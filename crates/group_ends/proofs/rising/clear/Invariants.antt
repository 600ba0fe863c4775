-- `group_ends::rising::clear` meets its contract.
use Prim.Native.Nat.{◌-◌}
use Rattle.group_ends.specs.Steps.{Cleared}
use Rattle.group_ends.proofs.rising.clear.Given as goal

abbrev pub invariant-loop-v : goal.invariant-loop-v
invariant-loop-v l = Cleared l.n l.v l.initial.p l.p

abbrev pub decreases-loop-v : goal.decreases-loop-v
decreases-loop-v l = l.n - l.v
