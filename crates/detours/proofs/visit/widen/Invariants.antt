-- `detours::visit::widen` meets its contract.
use Prim.Native.Nat.{◌≤◌}
use Rattle.matrices.specs.Widening.{Widening}
use Rattle.detours.specs.Visits.{Widened}
use Rattle.detours.proofs.visit.widen.Given as goal

abbrev pub invariant-loop-i : goal.invariant-loop-i
invariant-loop-i l = (l.i ≤ 16) × Widening (Widened l.m l.initial.p l.over l.at l.leave l.back) l.at l.i l.initial.p l.p l.r
