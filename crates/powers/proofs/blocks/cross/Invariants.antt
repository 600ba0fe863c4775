-- `powers::blocks::cross` meets its contract.
use Prim.Native.Nat.{◌≤◌}
use Rattle.matrices.specs.Matrices.{Drawing}
use Rattle.powers.specs.Blocks.{Crossed}
use Rattle.powers.proofs.blocks.cross.Given as goal

-- ── The loop's invariant ──
abbrev pub invariant-loop-i : goal.invariant-loop-i
invariant-loop-i l = (l.i ≤ 16) × Drawing (Crossed l.rows l.initial.p l.a l.w l.b) l.c l.i l.initial.p l.p
