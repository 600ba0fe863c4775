-- `staging::tests_at` meets its contract.
use Prim.Native.Nat.{◌≤◌}
use Rattle.staging.proofs.Tests.{Gathered, stays}
use Rattle.staging.proofs.tests_at.Given as goal

-- ── The loop's invariant ──
abbrev pub invariant-loop-j : goal.invariant-loop-j
invariant-loop-j l = (l.j ≤ 16) × Gathered (stays l.t l.n l.brackets l.numbers l.v) l.j l.w
