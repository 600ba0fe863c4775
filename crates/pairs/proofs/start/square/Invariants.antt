-- `pairs::start::square` meets its contract.
use Prim.Native.Nat.{◌≤◌}
use Rattle.matrices.specs.Matrices.{Drawing}
use Rattle.pairs.specs.Growing.{Square}
use Rattle.pairs.proofs.start.square.Given as goal

abbrev pub invariant-loop-a : goal.invariant-loop-a
invariant-loop-a l = (l.a ≤ 16) × Drawing (Square l.w) l.at l.a l.initial.p l.p
