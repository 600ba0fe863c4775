-- `loops::start::start` meets its contract.
use Prim.Native.Nat.{◌≤◌}
use Rattle.loops.specs.Growing.{Started}
use Rattle.loops.proofs.start.start.Given as goal

abbrev pub invariant-loop-v : goal.invariant-loop-v
invariant-loop-v l = (l.v ≤ l.n) × Started l.m l.n l.v l.initial.p l.p
