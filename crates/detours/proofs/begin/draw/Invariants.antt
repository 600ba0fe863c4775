-- `detours::begin::draw` meets its contract.
use Prim.Native.Nat.{◌≤◌}
use Rattle.matrices.specs.Matrices.{Drawing}
use Rattle.detours.specs.Visits.{Steps}
use Rattle.detours.proofs.begin.draw.Given as goal

abbrev pub invariant-loop-i : goal.invariant-loop-i
invariant-loop-i l = (l.i ≤ 16) × Drawing (Steps l.rows l.w) l.at l.i l.initial.p l.p
