-- `pairs::start::start` meets its contract.
use Prim.Native.Nat.{◌≤◌}
use Rattle.pairs.specs.Growing.{Started}
use Rattle.pairs.proofs.start.start.Given as goal

abbrev pub invariant-loop-v : goal.invariant-loop-v
invariant-loop-v l = (l.v ≤ l.n) × Started l.last l.n l.v l.initial.p l.p
