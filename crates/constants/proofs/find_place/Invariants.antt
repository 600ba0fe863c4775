-- `constants::find_place` meets its contract.
use Prim.Native.Nat.{◌-◌, ◌≤◌}
use mathlib.Core.List.{List}
use Rattle.document_spec.specs.Library.{Node}
use Rattle.document_spec.specs.Verdict.{Accepts}
use Rattle.layout.specs.Words.{word}
use Rattle.constants.specs.Places.{against}
use Rattle.constants.proofs.Placing.{Valued, Around}
use Rattle.constants.proofs.find_place.Given as goal

-- ── The loop's invariant ──
abbrev pub invariant-loop-lo : goal.invariant-loop-lo
invariant-loop-lo l = (l.hi ≤ l.n) × ((ns : List Node) → Accepts l.s ns → Valued (against ns l.rule l.c) l.n (word l.t l.n l.k) → Around (against ns l.rule l.c) l.n (word l.t l.n l.k) l.lo l.hi)

abbrev pub decreases-loop-lo : goal.decreases-loop-lo
decreases-loop-lo l = l.hi - l.lo
