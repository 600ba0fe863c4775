-- `compiler::steps::steps_with` meets its contract.
use Prim.Native.Nat.{◌≤◌, ◌+◌}
use Rattle.compiler.specs.Gathered.{Gathered, Begins}
use Rattle.compiler.proofs.steps.steps_with.Given as goal

abbrev pub invariant-loop-i : goal.invariant-loop-i
invariant-loop-i l = (1 ≤ l.i) × (l.i ≤ l.n + 1) × Gathered (Begins l.s l.places l.byte) l.i l.w
