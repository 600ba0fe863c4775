-- `halving::passes::add_lower` meets its contract.
use Prim.Native.Nat.{◌≤◌}
use Rattle.matrices.specs.Matrices.{Drawing}
use Rattle.halving.specs.Passes.{Lower, With}
use Rattle.halving.proofs.passes.add_lower.Given as goal

-- ── The loop's invariant ──
abbrev pub invariant-loop-i : goal.invariant-loop-i
invariant-loop-i l = (l.i ≤ 16) × Drawing (With l.initial.p l.to (Lower l.initial.p l.source l.up)) l.to l.i l.initial.p l.p
