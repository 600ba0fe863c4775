-- `compiler::steps::up_to` meets its contract.
use Prim.Native.Nat.{◌≤◌, ◌+◌}
use Rattle.compiler.specs.Gathered.{Gathered}
use Rattle.compiler.proofs.steps.up_to.Given as goal

abbrev pub invariant-loop-j : goal.invariant-loop-j
invariant-loop-j l = (l.j ≤ l.n + 1) × Gathered (λ k. k ≤ l.n) l.j l.w
