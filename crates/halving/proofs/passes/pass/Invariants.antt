-- `halving::passes::pass` meets its contract.
use Prim.Native.Nat.{◌≤◌}
use Rattle.halving.specs.Passes.{Grown, Handed}
use Rattle.halving.proofs.passes.pass.Given as goal

abbrev pub invariant-loop-y : goal.invariant-loop-y
invariant-loop-y l = (l.y ≤ l.n) × Grown l.n l.k (Handed l.n l.k l.initial.p l.y) l.initial.p l.p
