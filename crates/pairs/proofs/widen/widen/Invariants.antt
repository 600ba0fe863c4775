-- `pairs::widen::widen` meets its contract.
use Prim.Native.Nat.{◌≤◌}
use Rattle.matrices.specs.Widening.{Widening}
use Rattle.pairs.specs.Growing.{Widened}
use Rattle.pairs.proofs.widen.widen.Given as goal

abbrev pub invariant-loop-a : goal.invariant-loop-a
invariant-loop-a l = (l.a ≤ 16) × Widening (Widened l.initial.p l.at l.from l.by l.back l.to) l.at l.a l.initial.p l.p l.r
