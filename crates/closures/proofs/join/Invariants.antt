-- `closures::join` meets its contract.
use mathlib.Core.Path.{◌≡◌}
use Prim.Native.Nat.{◌≤◌, ◌+◌}
use lib.ListN.{get_or}
use Rattle.matrices.specs.Matrices.{Related, Drawing}
use Rattle.closures.specs.Closures.{Through}
use Rattle.closures.proofs.join.Given as goal

-- ── The loop's invariant ──
abbrev pub invariant-loop-i : goal.invariant-loop-i
invariant-loop-i l = (l.i ≤ 16) × (l.added ≡ get_or l.initial.p (l.at + l.k) 0) × Drawing (Through (Related l.initial.p l.at) l.k) l.at l.i l.initial.p l.p
