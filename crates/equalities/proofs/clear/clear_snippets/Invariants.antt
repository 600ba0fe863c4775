-- `equalities::clear::clear_snippets` meets its contract.
use Prim.Native.Nat.{◌≤◌}
use Rattle.equalities.specs.Steps.{Cleared}
use Rattle.equalities.proofs.clear.clear_snippets.Given as goal

abbrev pub invariant-loop-i : goal.invariant-loop-i
invariant-loop-i l = (l.i ≤ l.blocks) × Cleared l.n l.i l.initial.p l.p
