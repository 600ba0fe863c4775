-- `lexer::value` meets its contract.
use Prim.Native.Nat.{◌-◌, ◌^◌, ◌<◌}
use mathlib.Core.Path.{◌≡◌}
use mathlib.Core.List.{map}
use lib.ListN.{drop}
use Rattle.lists.specs.Numerals.{value_from, reading}
use Rattle.lexer.proofs.value.Given as goal

-- ── The loop's invariant ──
abbrev pub invariant-loop-b : goal.invariant-loop-b
invariant-loop-b l = (l.n < 10 ^ l.b-index) × (value_from 10 l.n (map (λ b. b - 48) (drop l.b-index l.b-items)) ≡ reading l.b-items)
