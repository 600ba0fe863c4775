-- `powers::passes::pass` meets its contract.
use Prim.Native.Nat.{◌≤◌}
use Rattle.powers.specs.Blocks.{Passed}
use Rattle.powers.proofs.passes.pass.Given as goal

abbrev pub invariant-loop-y : goal.invariant-loop-y
invariant-loop-y l = (l.y ≤ l.n) × Passed l.m l.n l.k l.y l.initial.p l.p
