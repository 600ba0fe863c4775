-- `first_snippets::sinking::sink` meets its contract.
use Prim.Native.Nat.{◌-◌, ◌≤◌}
use Rattle.first_snippets.specs.Steps.{Sank}
use Rattle.first_snippets.proofs.sinking.sink.Given as goal

abbrev pub invariant-loop-v : goal.invariant-loop-v
invariant-loop-v l = (l.v ≤ l.n) × Sank l.m l.n l.b l.first l.r l.v l.initial.p l.p

abbrev pub decreases-loop-v : goal.decreases-loop-v
decreases-loop-v l = l.n - l.v
