-- `halving::count` meets its contract.
use Prim.Native.Nat.{◌≤◌}
use mathlib.Core.Path.{◌≡◌}
use Rattle.halving.proofs.Counting.{total}
use Rattle.halving.proofs.count.Given as goal

-- ── The loop's invariant ──
abbrev pub invariant-loop-i : goal.invariant-loop-i
invariant-loop-i l = (l.i ≤ l.blocks) × (l.r ≡ total l.p l.n l.i)
