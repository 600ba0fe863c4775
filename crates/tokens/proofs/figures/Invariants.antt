-- `tokens::figures` meets its contract.
use Prim.Native.Nat.{◌≤◌}
use lib.ListN.{drop}
use mathlib.Core.Path.{◌≡◌}
use Rattle.limits.specs.Limits.{rule_count}
use Rattle.tokens.specs.Numbers.{figured, numbered}
use Rattle.tokens.proofs.figures.Given as goal

-- ── The loop's invariant ──
abbrev pub invariant-loop-i : goal.invariant-loop-i
invariant-loop-i l = (l.n ≤ rule_count) × (numbered l.at (drop l.at l.s) ≡ figured l.n l.i (drop l.i l.s))
