-- `matrices::size` meets its contract.
use mathlib.Core.Path.{◌≡◌}
use Prim.Native.Nat.{◌≤◌}
use Rattle.matrices.specs.Matrices.{pairs}
use Rattle.matrices.proofs.size.Given as goal

-- ── The loop's invariant ──
abbrev pub invariant-loop-i : goal.invariant-loop-i
invariant-loop-i l = (l.i ≤ 16) × (l.r ≡ pairs l.p l.at l.i)
