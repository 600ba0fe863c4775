-- `group_ends::rising::rise` meets its contract.
use Prim.Native.Nat.{◌≤◌}
use Rattle.group_ends.specs.Steps.{Rises}
use Rattle.group_ends.proofs.rising.rise.Given as goal

abbrev pub invariant-loop-v : goal.invariant-loop-v
invariant-loop-v l = (l.v ≤ l.n) × Rises l.m l.n l.b l.r l.n l.v l.initial.p l.p

abbrev pub decreases-loop-v : goal.decreases-loop-v
decreases-loop-v l = l.v
