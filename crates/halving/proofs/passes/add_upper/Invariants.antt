-- `halving::passes::add_upper` meets its contract.
use Prim.Native.Nat.{◌≤◌}
use Rattle.matrices.specs.Matrices.{Drawing}
use Rattle.halving.specs.Passes.{Upper, With}
use Rattle.halving.proofs.passes.add_upper.Given as goal

-- ── The loop's invariant ──
abbrev pub invariant-loop-i : goal.invariant-loop-i
invariant-loop-i l = (l.i ≤ 16) × Drawing (With l.initial.p l.to (Upper l.initial.p l.source l.down)) l.to l.i l.initial.p l.p
